use mathlib.Core.Path.{refl}
use Rattle.model_readings.specs.ReadingStruct.{finding, contradiction}
use Rattle.model_readings.proofs.contradicted_at.Goals as goal

pub returns : goal.returns
unfolding finding contradiction
returns c = refl
