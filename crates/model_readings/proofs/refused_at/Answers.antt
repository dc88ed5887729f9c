use Rattle.model_types.specs.ModelStruct.{cause}
use Rattle.model_types.specs.ModelStructLaws.{refusal_cause}
use Rattle.model_readings.specs.ReadingStruct.{finding, contradiction}
use Rattle.model_readings.proofs.refused_at.Goals as goal

pub returns : goal.returns
unfolding finding contradiction
returns c = rw (refusal_cause c.args.refusal)
