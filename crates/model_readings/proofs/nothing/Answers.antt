use mathlib.Core.Path.{refl}
use Rattle.model_readings.specs.ReadingStruct.{finding, contradiction}
use Rattle.model_readings.proofs.nothing.Goals as goal

pub returns : goal.returns
unfolding finding contradiction
returns c = refl
