-- Curves in memory: the curve that a struct holds, and the struct that holds a curve; answers likewise.
use Rattle.calculus.specs.Refusal.{Result, done, stopped}
use Rattle.chebyshev.specs.Curve as C
use Rattle.chebyshev.specs.Curve.{zero_curve}
use Rattle.model_types.specs.declared.Curve.{Curve}
use Rattle.model_types.specs.declared.CurveAnswer.{CurveAnswer}
use Rattle.std.specs.Prelude.{Ok, Err}
use Rattle.model_types.specs.ModelStruct.{refused_at}
use Rattle.model_types.specs.ModelStruct.{refusal}

-- the curve that a struct holds
abbrev pub view_curve : Curve → C.Curve
view_curve c = record { coefficients = c.coefficients; radius = c.radius }

-- the struct that holds a curve
abbrev pub pack_curve : C.Curve → Curve
pack_curve c = record { coefficients = c.coefficients; radius = c.radius }

-- a curve, or all zeros beside the refusal
unfoldable pub curve_answer : Result C.Curve → CurveAnswer
curve_answer (done c) = record { curve = pack_curve c; verdict = Ok tt }
curve_answer (stopped r i) = record { curve = pack_curve zero_curve; verdict = Err (refused_at (refusal r) i) }
