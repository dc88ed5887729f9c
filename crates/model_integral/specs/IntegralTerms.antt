-- What the sums over a model's terms are asked of.
use Rattle.std.specs.Prelude.{List, ℕ, T, ℤ}
use Rattle.calculus.specs.Model.{most_degree, sound}
use Rattle.model_types.specs.ModelStruct.{view}
use Rattle.model_slices.specs.HeldModels.{held}
use Rattle.model_places.specs.SlicePlaces.{Places}

-- the terms of a sound model in n variables lie in slices
pub record TermsIn (n count : ℕ) (ks : List ℕ) (cs : List ℤ) : Type 0 where
  pub radius : ℕ
  pub places : Places count ks cs
  pub model : T (sound most_degree (view (held n count radius ks cs)))
