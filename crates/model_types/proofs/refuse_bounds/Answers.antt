-- `refuse_bounds` hands back zeros beside the refusal.
use Rattle.calculus.specs.Operations.{zero_ends}
use Rattle.model_types.specs.ModelStruct.{bounds}
use Rattle.model_types.specs.ModelStructLaws.{refusal_cause}
use Rattle.model_types.proofs.refuse_bounds.Goals as goal

pub returns : goal.returns
unfolding zero_ends bounds
returns c = rw (refusal_cause c.args.refusal)
