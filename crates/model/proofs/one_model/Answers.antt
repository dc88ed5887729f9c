-- `Model::ONE` is the model of 1 in one variable.
use mathlib.Core.Path.{refl}
use Rattle.numbers.specs.Computing.{numbers}
use Rattle.calculus.specs.Monomial.{zeros}
use Rattle.calculus.specs.Key.{encode, key_width}
use Rattle.calculus.specs.Model.{one_model, most_terms}
use Rattle.model_types.specs.Arrays.{padded}
use Rattle.model_types.specs.ModelStruct.{pack, pack_term}
use Rattle.model.proofs.one_model.Goals as goal

pub returns : goal.returns
unfolding numbers zeros encode key_width one_model most_terms pack pack_term padded
returns c = refl
