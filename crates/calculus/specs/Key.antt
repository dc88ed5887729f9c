-- Keys: the exponents of a monomial as the digits of one number, that of variable 1 the highest.
use Rattle.std.specs.Prelude.{Bool, true, false, ◌&&◌, List, [], ◌∷◌, ℕ, zero, suc, ◌+◌, ◌-◌, ◌*◌, ◌/◌, ◌%◌, ◌^◌, ◌<◌, eqb, ltb}
use Rattle.calculus.specs.Monomial.{degree}

-- exponents as a number of w digits to a base; the digits after the last exponent are 0, and exponents beyond w digits
-- are dropped
unfoldable pub encode : (base w : ℕ) → List ℕ → ℕ
encode base w [] = 0
encode base zero (e ∷ k) = 0
encode base (suc w) (e ∷ k) = e * base ^ w + encode base w k

-- the first n of the w digits of a number
unfoldable pub decode : (base w n : ℕ) → ℕ → List ℕ
decode base w zero z = []
decode base zero (suc n) z = []
decode base (suc w) (suc n) z = z / base ^ w ∷ decode base w n (z % base ^ w)

-- a number of w digits of which those after the n-th are 0
unfoldable pub fits_digits : (base w n : ℕ) → ℕ → Bool
fits_digits base w n z = ltb z (base ^ w) && eqb (z % base ^ (w - n)) 0

-- ---- a key has four bits for an exponent
-- the number of exponents in a key of 32 bits
unfoldable pub key_width : ℕ
key_width = 8

-- every key is below this
unfoldable pub key_limit : ℕ
key_limit = 16 ^ key_width

-- up to so many variables keys are short: the exponents after these are 0, and 16 bits hold the others
abbrev pub short_width : ℕ
short_width = 4

-- what a short key counts: it is the upper half of a key
abbrev pub short_key : ℕ
short_key = 65536

-- the key of a monomial
abbrev pub key : (w : ℕ) → List ℕ → ℕ
key = encode 16

-- the monomial in n variables of a key
abbrev pub key_exponents : (w n : ℕ) → ℕ → List ℕ
key_exponents = decode 16

-- the exponents of variables above n are 0
abbrev pub key_fits : (w n : ℕ) → ℕ → Bool
key_fits = fits_digits 16

-- the monomial that a key stands for in a model of n variables; a key with an exponent above n has all its exponents,
-- and so no rule on monomials in n variables holds for it
unfoldable pub monomial_of : (n : ℕ) → ℕ → List ℕ
monomial_of n z = elim (key_fits key_width n z) [
  | true ↦ key_exponents key_width n z
  | false ↦ key_exponents key_width key_width z
]

-- the sum of all exponents of a key
unfoldable pub key_degree : ℕ → ℕ
key_degree z = degree (key_exponents key_width key_width z)

-- every exponent is below the base
abbrev pub Below : ℕ → List ℕ → Type 0
Below base [] = Unit {0}
Below base (e ∷ k) = (e < base) × Below base k
