-- `handed_curve` copies one coefficient after the other.
use mathlib.Core.Path.{◌≡◌, refl, ap}
use native.Mathlib.Omega.{arith}
use lib.IntN.{ℤ, pos}
use lib.ListN.{length, take, get_or}
use mir.Facts.{to_z-of_z}
use mir.Syntax.{w64}
use mir.Val.{to_z, of_z}
use Prim.Native.Nat.{◌≤◌, ◌-◌}
use borrow.Author.Rules.{rules}
use Rattle.chebyshev.specs.PowerRows.{places}
use Rattle.model_types.specs.Arrays.{padded}
use Rattle.c_curves.specs.HandedCurves.{handed_curve}
use Rattle.c_curves.specs.HandedCurvesLaws.{read_more, read_end}
use Rattle.c_curves.proofs.handed_curve.Given as goal

abbrev pub invariant-loop-i : goal.invariant-loop-i
invariant-loop-i l = (l.i ≤ 16) × (l.out ≡ padded (pos 0) 16 (take l.i l.coefficients))
