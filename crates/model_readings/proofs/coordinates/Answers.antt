use Rattle.calculus.specs.Key.{key_width}
use Rattle.model_readings.proofs.coordinates.Goals as goal

pub returns : goal.returns
unfolding key_width
returns c = c.min.ensures
