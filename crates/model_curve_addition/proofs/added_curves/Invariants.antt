-- `added_curves` adds the coefficients, place by place.
use Rattle.chebyshev.specs.Coefficients.{sum}
use Rattle.model_curve_addition.specs.CurveLoopLaws.{Copied}
use Rattle.model_curve_addition.proofs.added_curves.Given as goal

abbrev pub invariant-loop-i : goal.invariant-loop-i
invariant-loop-i l = Copied (sum l.f.coefficients l.g.coefficients) l.out l.i
