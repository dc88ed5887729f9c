-- `refuse_curve` is the answer of a refused call.
use Rattle.chebyshev.specs.Curve.{zero_curve}
use Rattle.chebyshev.specs.PowerRows.{places, zeros}
use Rattle.model_types.specs.ModelStructLaws.{refusal_cause}
use Rattle.model_types.specs.CurveStruct.{curve_answer}
use Rattle.model_curve_addition.proofs.refuse_curve.Goals as goal

pub returns : goal.returns
unfolding curve_answer zero_curve places zeros
returns c = rw (refusal_cause c.args.refusal)
