-- `without_terms` is the zero model in n variables.
use mathlib.Core.Path.{refl}
use Rattle.calculus.specs.Model.{zero_model, most_terms}
use Rattle.model_types.specs.Arrays.{padded}
use Rattle.model_types.specs.ModelStruct.{pack}
use Rattle.model_types.proofs.without_terms.Goals as goal

pub returns : goal.returns
unfolding zero_model most_terms pack padded
returns c = refl
