-- `refuse_integral` hands back zeros beside the refusal.
use Rattle.calculus.specs.Operations.{zero_ends, zero_mixed}
use Rattle.model_types.specs.ModelStruct.{integral_answer}
use Rattle.model_types.specs.ModelStructLaws.{refusal_cause}
use Rattle.model_types.proofs.refuse_integral.Goals as goal

pub returns : goal.returns
unfolding zero_ends zero_mixed integral_answer
returns c = rw (refusal_cause c.args.refusal)
