-- A sound model in slices, and one of an order with one of its variables.
use Rattle.std.specs.Prelude.{List, ℕ, T, ℤ}
use Rattle.calculus.specs.Model.{most_degree, sound}
use Rattle.model_types.specs.ModelStruct.{view}
use Rattle.model_slices.specs.HeldModels.{held}
use Rattle.model_places.specs.SlicePlaces.{Places}
use Rattle.model.specs.OperationContracts.{Integrand}

-- in n variables, with degrees up to 15
pub record SoundSlices (n count radius : ℕ) (ks : List ℕ) (cs : List ℤ) : Type 0 where
  pub places : Places count ks cs
  pub model : T (sound most_degree (view (held n count radius ks cs)))

-- with degrees up to d, and i from 1 to n
pub record IntegrandSlices (d i n count radius : ℕ) (ks : List ℕ) (cs : List ℤ) : Type 0 where
  pub places : Places count ks cs
  pub integrand : Integrand d i (held n count radius ks cs)
