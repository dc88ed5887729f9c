-- `handed_curve` copies one coefficient after the other.
use mathlib.Core.Path.{◌≡◌, refl, ap}
use native.Mathlib.Omega.{arith}
use lib.IntN.{ℤ, pos}
use lib.ListN.{length, take, get_or}
use mir.Facts.{to_z-of_z}
use mir.Syntax.{w64}
use mir.Val.{to_z, of_z}
use Prim.Native.Nat.{◌≤◌, ◌-◌}
use borrow.Author.Rules.{rules}
use Rattle.chebyshev.specs.PowerRows.{places}
use Rattle.model_types.specs.Arrays.{padded}
use Rattle.c_curves.specs.HandedCurves.{handed_curve}
use Rattle.c_curves.specs.HandedCurvesLaws.{read_more, read_end}
use Rattle.c_curves.proofs.handed_curve.Goals as goal
use Rattle.c_curves.proofs.handed_curve.Goals.{After-c-1, Start}

-- there are sixteen
enough : (c : Start) → 16 ≤ length c.args.coefficients.now
unfolding places
enough c = c.requires

pub loop-i-init : goal.loop-i-init
unfolding padded
loop-i-init c = (omega arith, refl)

pub bounds-coefficients-i : goal.bounds-coefficients-i
bounds-coefficients-i c = omega (arith, enough (goal.at.bounds-coefficients-i c).Start)

-- the coefficient that is stored is the one that was read
module _ (c : After-c-1) where
  abbrev coefficient : ℤ
  coefficient =
      get_or c.args.coefficients.now c.loop-i.i (pos 0)

  read_back : to_z w64 (of_z w64 coefficient) ≡ coefficient
  read_back = to_z-of_z {w = w64} (record { sfits = c.c-1.given })

pub loop-i-preserved : goal.loop-i-preserved
loop-i-preserved c =
    let e = enough (goal.at.loop-i-preserved c).Start in (
      omega arith,
      rw (c.loop-i.invariant.1, read_back c)
          (read_more c.args.coefficients.now c.loop-i.i (omega arith) (omega arith)),
    )

pub returns : goal.returns
unfolding handed_curve
returns c =
    let e : c.loop-i.i ≡ 16 = omega arith in
    rw (c.loop-i.invariant.1, read_end c.args.coefficients.now c.loop-i.i e (enough (goal.at.returns c).Start))
