-- `store_coefficients` stores one coefficient after the other.
use mathlib.Core.Path.{◌≡◌, refl, ◌∙◌}
use Prim.Native.Nat.{◌≤◌, ◌-◌}
use native.Mathlib.Omega.{arith}
use borrow.Author.Rules.{rules}
use lib.IntN.{ℤ, pos}
use lib.ListN.{length, take, get_or, length-set}
use lib.Seq.{take_all}
use mir.Facts.{to_z-of_z}
use mir.Syntax.{w64}
use mir.Val.{to_z, of_z}
use Rattle.chebyshev.specs.PowerRows.{places}
use Rattle.model_slices.specs.HandedModels.{over}
use Rattle.c_curves.specs.HandedCurvesLaws.{coefficient_more}
use Rattle.c_curves.proofs.store_coefficients.Goals as goal
use Rattle.c_curves.proofs.store_coefficients.Goals.{After-z-1, Start}

whole : (c : Start) → length c.args.c.coefficients ≡ 16
whole c = search rules

enough : (c : Start) → 16 ≤ length c.args.coefficients.now
unfolding places
enough c = c.requires

pub loop-i-init : goal.loop-i-init
unfolding over
loop-i-init c = (omega arith, refl, refl)

pub bounds-coefficients-i : goal.bounds-coefficients-i
bounds-coefficients-i c =
    omega (arith, enough (goal.at.bounds-coefficients-i c).Start)

-- the coefficient that is stored is the one that was read
module _ (c : After-z-1) where
  abbrev coefficient : ℤ
  coefficient =
      get_or c.args.c.coefficients c.loop-i.i (pos 0)

  read_back : to_z w64 (of_z w64 coefficient) ≡ coefficient
  read_back = to_z-of_z {w = w64} (record { sfits = c.z-1.given })

pub loop-i-preserved : goal.loop-i-preserved
loop-i-preserved c =
    let h = c.loop-i.invariant in
    let w = whole (goal.at.loop-i-preserved c).Start in
    let e = enough (goal.at.loop-i-preserved c).Start in (
      omega arith,
      length-set c.loop-i.coefficients c.loop-i.i _ ∙ h.1,
      rw (h.2, read_back c)
          (coefficient_more c.args.c.coefficients c.args.coefficients.now c.loop-i.i (omega arith)
          (omega arith)),
    )

pub returns : goal.returns
returns c =
    rw (
      c.loop-i.invariant.2,
      take_all c.loop-i.i c.args.c.coefficients
          (omega (arith, whole (goal.at.returns c).Start)),
    )
