-- Terms by wide keys in two arrays, packed: stored by their keys, in slices or in a struct.
use Rattle.std.specs.Prelude.{List, map, ℕ, ◌≤◌, ◌<◌, ℤ, length, get_or}
use Rattle.polynomial.specs.Polynomial as P
use Rattle.polynomial.specs.Polynomial.{exponent}
use Rattle.calculus.specs.Key.{Below}
use Rattle.calculus.specs.Terms.{Terms}
use Rattle.calculus.specs.Model.{most_terms}
use Rattle.model_keys.specs.Keys.{wide_exponents, narrowed}
use Rattle.model_types.specs.declared.Term.{Term}
use Rattle.model_types.specs.declared.Model.{Model}
use Rattle.model_types.specs.ModelStruct.{pad, of_terms}

-- the key of the one exponent that a term at a wide key has
unfoldable pub narrowed_term : P.Term ℤ → Term
narrowed_term t = record { key = narrowed (exponent 0 t.exponents); coefficient = t.coefficient }

-- terms by wide keys whose exponents fit a key
pub record PackReady (count : ℕ) (keys : List ℕ) (coefficients : List ℤ) : Type 0 where
  pub few : count ≤ most_terms
  pub keys_long : count ≤ length keys
  pub coefficients_long : count ≤ length coefficients
  pub small : (i : ℕ) → i < count → Below 16 (wide_exponents (get_or keys i 0))

-- their keys
unfoldable pub narrow_keys : Terms → List ℕ
narrow_keys p = map (λ t. t.key) (map narrowed_term p)

-- their coefficients
unfoldable pub narrow_coefficients : Terms → List ℤ
narrow_coefficients p = map (λ t. t.coefficient) (map narrowed_term p)

-- the struct that holds them
unfoldable pub packed : (n radius : ℕ) → Terms → Model
packed n radius p = of_terms n (length p) radius (pad (map narrowed_term p))
