-- `wide_degree` reads the last byte.
use mathlib.Core.Path.{refl}
use Rattle.model_keys.specs.Keys.{wide_degree}
use Rattle.model_keys.proofs.wide_degree.Goals as goal

pub returns : goal.returns
unfolding wide_degree
returns c = refl
