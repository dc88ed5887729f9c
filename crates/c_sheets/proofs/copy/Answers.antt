-- `copy` copies byte by byte.
use mathlib.Core.Path.{◌≡◌, refl, ◌∙◌}
use Prim.Native.Nat.{◌≤◌, ◌-◌, min}
use native.Mathlib.Omega.{arith}
use borrow.Author.Rules.{rules}
use lib.ListN.{length, take, length-set}
use Rattle.model_slices.specs.HandedModels.{over}
use Rattle.c_sheets.specs.SheetCallsLaws.{copied_more, copied_end}
use Rattle.c_sheets.proofs.copy.Goals as goal

pub loop-i-init : goal.loop-i-init
unfolding over
loop-i-init c = (omega arith, refl, refl)

pub loop-i-preserved : goal.loop-i-preserved
loop-i-preserved c =
    let a = c.args in
    let h = c.loop-i.invariant in (
      omega arith,
      length-set c.loop-i.out c.loop-i.i _ ∙ h.1,
      rw h.2 (copied_more a.bytes.now a.out.now c.loop-i.i (omega arith) (omega arith)),
    )

pub returns : goal.returns
returns c =
    let a = c.args in
    let e : c.loop-i.i ≡ min (length a.bytes.now) (length a.out.now) = omega arith in
    c.loop-i.invariant.2 ∙ copied_end c.loop-i.i a.bytes.now a.out.now e
