-- Terms by the wide keys of their monomials: Kronecker's substitution of one variable for all.
use Rattle.std.specs.Prelude.{List, [], ◌∷◌, ℕ}
use Rattle.polynomial.specs.Polynomial.{exponent}
use Rattle.calculus.specs.Terms.{Terms, map_monomials}
use Rattle.model_keys.specs.Keys.{wide_key, wide_degree}

-- a monomial's wide key, as the exponent of one variable
unfoldable pub wide : List ℕ → List ℕ
wide k = wide_key k ∷ []

-- each term at its wide key
unfoldable pub wide_terms : Terms → Terms
wide_terms = map_monomials wide

-- the degree in the wide key that is the one exponent
unfoldable pub degree_byte : List ℕ → ℕ
degree_byte k = wide_degree (exponent 0 k)
