-- Monomials in n variables: lists of n exponents, that of variable 1 first.
use Rattle.std.specs.Prelude.{List, [], ◌∷◌, ℕ, pred, ◌+◌, replicate}
use Rattle.polynomial.specs.Polynomial.{replace}
-- equality, and the order in which the first exponent that differs decides: the order of the keys
pub use Rattle.numbers.specs.algebra.Lexicographic.{same, less}

-- the total degree
unfoldable pub degree : List ℕ → ℕ
degree [] = 0
degree (e ∷ k) = e + degree k

-- the constant monomial
unfoldable pub zeros : ℕ → List ℕ
zeros n = replicate n 0

-- variables are numbered from 1, places in a list from 0
unfoldable pub index_of : ℕ → ℕ
index_of v = pred v

-- variable v of n
unfoldable pub single : (n v : ℕ) → List ℕ
single n v = replace (index_of v) 1 (zeros n)
