-- `copy_keys` stores one place after the other, as far as the count goes.
use mathlib.Core.Path.{◌≡◌, refl, ◌∙◌}
use Prim.Native.Nat.{◌≤◌, ◌-◌}
use native.Mathlib.Omega.{arith}
use borrow.Author.Rules.{rules}
use lib.ListN.{length, take, length-set}
use Rattle.model_slices.specs.HandedModels.{over}
use Rattle.model_slices.specs.HandedModelsLaws.{stored_more}
use Rattle.model_slices.proofs.copy_keys.Goals as goal

pub loop-i-init : goal.loop-i-init
unfolding over
loop-i-init c = (omega arith, refl, refl)

pub loop-i-preserved : goal.loop-i-preserved
loop-i-preserved c =
    let a = c.args in
    let h = c.loop-i.invariant in
    let i = c.loop-i.i in (
      omega arith,
      length-set c.loop-i.out i _ ∙ h.1,
      rw h.2 (stored_more 0 a.keys.now a.out.now i (omega arith) (omega arith)),
    )

pub returns : goal.returns
returns c =
    let e : c.loop-i.i ≡ c.args.count = omega arith in
    rw (c.loop-i.invariant.2, e)
