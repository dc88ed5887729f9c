-- What is asked of the factors of a product, and their terms by wide keys.
use Rattle.std.specs.Prelude.{◌≡◌, List, ℕ, ◌≤◌, T, ℤ}
use Rattle.calculus.specs.Terms.{size}
use Rattle.calculus.specs.Model.{most_degree, sound}
use Rattle.model_types.specs.declared.Model.{Model}
use Rattle.model_types.specs.ModelStruct.{view}
use Rattle.product_sums.specs.TermArrays.{terms}
use Rattle.product_sums.specs.Wide.{wide_terms}

-- two models that are sound at order d, in the same variables
pub record Factors (d : ℕ) (f g : Model) : Type 0 where
  pub order : d ≤ most_degree
  pub first : T (sound d (view f))
  pub second : T (sound d (view g))
  pub vars : f.n ≡ g.n

-- the terms of one stand by their wide keys in two arrays, and the total is the sum of their |c|
pub record Unpacked (m : Model) (keys : List ℕ) (coefficients : List ℤ) (total : ℕ) : Type 0 where
  pub held : terms m.count keys coefficients ≡ wide_terms (view m).terms
  pub sum : total ≡ size (view m).terms
