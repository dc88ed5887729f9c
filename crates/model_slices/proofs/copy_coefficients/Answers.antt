-- `copy_coefficients` stores one place after the other, as far as the count goes.
use mathlib.Core.Path.{◌≡◌, refl, ◌∙◌}
use Prim.Native.Nat.{◌≤◌, ◌-◌}
use native.Mathlib.Omega.{arith}
use borrow.Author.Rules.{rules}
use lib.IntN.{ℤ, pos}
use lib.ListN.{length, take, get_or, length-set}
use mir.Facts.{to_z-of_z}
use mir.Syntax.{w64}
use mir.Val.{to_z, of_z}
use Rattle.model_slices.specs.HandedModels.{over}
use Rattle.model_slices.specs.HandedModelsLaws.{stored_more}
use Rattle.model_slices.proofs.copy_coefficients.Goals as goal
use Rattle.model_slices.proofs.copy_coefficients.Goals.{After-c-1, At-loop-i}

pub loop-i-init : goal.loop-i-init
unfolding over
loop-i-init c = (omega arith, refl, refl)

-- the coefficient that is stored is the one that was read
module _ (c : After-c-1) where
  abbrev loop : At-loop-i
  loop = c.before.before

  abbrev at : ℤ
  at = get_or loop.args.coefficients.now loop.loop-i.i (pos 0)

  read_back : to_z w64 (of_z w64 at) ≡ at
  read_back = to_z-of_z {w = w64} (record { sfits = c.c-1.given })

pub loop-i-preserved : goal.loop-i-preserved
loop-i-preserved c =
    let l = loop c in
    let a = l.args in
    let h = l.loop-i.invariant in
    let i = l.loop-i.i in (
      omega arith,
      length-set l.loop-i.out i _ ∙ h.1,
      rw (h.2, read_back c) (stored_more (pos 0) a.coefficients.now a.out.now i (omega arith) (omega arith)),
    )

pub returns : goal.returns
returns c =
    let e : c.loop-i.i ≡ c.args.count = omega arith in
    rw (c.loop-i.invariant.2, e)
