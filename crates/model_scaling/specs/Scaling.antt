-- A model times a constant, in one pass: nothing is collected.
use Rattle.std.specs.Prelude.{ℕ, ◌+◌, ◌*◌, ◌≤◌, T, ℤ, ◌*ℤ◌, nat_abs}
use Rattle.numbers.specs.Fixed.{U, round, residual}
use Rattle.calculus.specs.Terms.{Terms, sum_ℕ, map_coefficients, drop_zeros}
use Rattle.calculus.specs.Model as C
use Rattle.calculus.specs.Model.{most_degree, sound}
use Rattle.model_types.specs.declared.Model.{Model}
use Rattle.model_types.specs.ModelStruct.{view}

-- what a coefficient becomes
unfoldable pub scaled_coefficient : (X c : ℤ) → ℤ
scaled_coefficient X c = round (c *ℤ X)

-- and what that leaves
unfoldable pub scaled_residual : (X c : ℤ) → ℕ
scaled_residual X c = residual (c *ℤ X)

-- the terms, zeros dropped
unfoldable pub scaled_terms : ℤ → Terms → Terms
scaled_terms X p = drop_zeros (map_coefficients (scaled_coefficient X) p)

-- E: |X| × e and all that is left
unfoldable pub scaled_error : ℤ → C.Model → ℕ
scaled_error X f = nat_abs X * f.radius + sum_ℕ (λ k c. scaled_residual X c) f.terms

-- the terms with E in the place of the radius
unfoldable pub scaled_pass : ℤ → C.Model → C.Model
scaled_pass X f = record { vars = f.vars; radius = scaled_error X f; terms = scaled_terms X f.terms }

-- a sound model, and a constant from -U to U
pub record Scalable (X : ℤ) (f : Model) : Type 0 where
  pub model : T (sound most_degree (view f))
  pub small : nat_abs X ≤ U
