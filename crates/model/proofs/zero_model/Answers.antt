-- `Model::ZERO` is the zero model in one variable.
use mathlib.Core.Path.{refl}
use Rattle.calculus.specs.Model.{zero_model, most_terms}
use Rattle.model_types.specs.Arrays.{padded}
use Rattle.model_types.specs.ModelStruct.{pack}
use Rattle.model.proofs.zero_model.Goals as goal

pub returns : goal.returns
unfolding zero_model most_terms pack padded
returns c = refl
