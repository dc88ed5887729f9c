-- `turned_curve` turns the sign of each coefficient.
use mathlib.Core.List.{map}
use lib.IntN.{neg_ℤ}
use Rattle.model_curve_addition.specs.CurveLoopLaws.{Copied}
use Rattle.model_curve_addition.proofs.turned_curve.Given as goal

abbrev pub invariant-loop-i : goal.invariant-loop-i
invariant-loop-i l = Copied (map neg_ℤ l.c.coefficients) l.out l.i
