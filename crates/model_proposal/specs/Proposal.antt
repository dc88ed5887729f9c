-- What the forms of a proposal ask, and the difference in the first of them.
use Rattle.std.specs.Prelude.{◌≡◌, ℕ, ◌*◌, ◌≤◌, max, T}
use Rattle.calculus.specs.Model as C
use Rattle.calculus.specs.Model.{most_degree, most_terms, sound}
use Rattle.calculus.specs.Refusal as R
use Rattle.calculus.specs.Refusal.{◌then◌}
use Rattle.calculus.specs.Operations.{subtract, multiply, bare}
use Rattle.model_types.specs.declared.Model.{Model}
use Rattle.model_types.specs.ModelStruct.{view}

-- g × h - f, h without its radius
unfoldable pub gap : (d : ℕ) (f g h : C.Model) → R.Answer C.Model
gap d f g h = multiply d g (bare h) then (λ p. subtract p f)

-- three models in the same variables, sound for order d
pub record Gap (d : ℕ) (f g h : Model) : Type 0 where
  pub order : d ≤ most_degree
  pub dividend : T (sound d (view f))
  pub divisor : T (sound d (view g))
  pub proposed : T (sound d (view h))
  pub divisor_vars : g.n ≡ f.n
  pub proposed_vars : h.n ≡ f.n

-- and a fourth: the operands of a quotient
pub record Proposal (d : ℕ) (f g h w : Model) : Type 0 where
  pub order : d ≤ most_degree
  pub dividend : T (sound d (view f))
  pub divisor : T (sound d (view g))
  pub proposed : T (sound d (view h))
  pub inverse : T (sound d (view w))
  pub divisor_vars : g.n ≡ f.n
  pub proposed_vars : h.n ≡ f.n
  pub inverse_vars : w.n ≡ f.n

-- how many pairs of terms a product of the forms has at the most, by the numbers of terms of g, h and w
unfoldable pub quotient_products : (g h w : ℕ) → ℕ
quotient_products g h w = max (g * h) (most_terms * w)
