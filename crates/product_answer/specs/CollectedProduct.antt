-- What the answer of a product starts from.
use Rattle.std.specs.Prelude.{◌≡◌, List, ℕ, ◌≤◌, T, ℤ, length}
use Rattle.calculus.specs.Terms.{size}
use Rattle.calculus.specs.Model.{Model, most_terms, most_degree, sound}
use Rattle.product_sums.specs.declared.Gathered.{Gathered}
use Rattle.product_sums.specs.ProductSums.{Answered}

-- two models in n variables that are sound at an order, with the sums of |c| a and b and the radii e1 and e2, and what
-- the collector answers for their product
pub record Product (n a e1 b e2 : ℕ) (r : Gathered) (keys : List ℕ) (coefficients : List ℤ) : Type 0 where
  pub order : ℕ
  pub first : Model
  pub second : Model
  pub low : order ≤ most_degree
  pub first_sound : T (sound order first)
  pub second_sound : T (sound order second)
  pub first_vars : n ≡ first.vars
  pub second_vars : n ≡ second.vars
  pub first_size : a ≡ size first.terms
  pub first_radius : e1 ≡ first.radius
  pub second_size : b ≡ size second.terms
  pub second_radius : e2 ≡ second.radius
  pub answered : Answered order first second keys coefficients r
  pub keys_room : most_terms ≤ length keys
  pub coefficients_room : most_terms ≤ length coefficients
