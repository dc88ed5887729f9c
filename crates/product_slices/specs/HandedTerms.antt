-- What is asked of a model that lies in two slices, where its terms are unpacked.
use Rattle.std.specs.Prelude.{ℕ, ◌≤◌, List, ℤ, length}
use Rattle.numbers.specs.Fixed.{span_limit}
use Rattle.calculus.specs.Key.{key_width}
use Rattle.calculus.specs.Model.{most_terms, span}
use Rattle.model_types.specs.ModelStruct.{view}
use Rattle.model_slices.specs.HandedModels.{handed}

-- the slices have the places that the count names, and with some number of variables and some radius they hold a model
-- within the limits
pub record Handed (count : ℕ) (keys : List ℕ) (coefficients : List ℤ) : Type 0 where
  pub vars : ℕ
  pub radius : ℕ
  pub width : vars ≤ key_width
  pub few : count ≤ most_terms
  pub small : span (view (handed vars count radius keys coefficients)) ≤ span_limit
  pub keys_long : count ≤ length keys
  pub coefficients_long : count ≤ length coefficients
