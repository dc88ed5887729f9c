-- The digits of a key: one exponent, tests and products over all of them, and the way to wide keys and back.
use Rattle.std.specs.Prelude.{Bool, List, ℕ, ◌+◌, ◌-◌, ◌*◌, ◌/◌, ◌%◌, ◌^◌, ◌≤◌, ◌<◌}
use Rattle.polynomial.specs.Polynomial.{exponent}
use Rattle.polynomial.specs.Integral.{all_even, divisor}
use Rattle.calculus.specs.Monomial.{degree, index_of}
use Rattle.calculus.specs.Key.{encode, decode, key_width, key, key_exponents}

-- ---- one exponent
-- a variable whose exponent a key holds
pub record Slot (i : ℕ) : Type 0 where
  pub first : 1 ≤ i
  pub last : i ≤ key_width

-- the exponent of variable i in a key
unfoldable pub key_exponent : (i : ℕ) → ℕ → ℕ
key_exponent i z = exponent (index_of i) (key_exponents key_width key_width z)

-- the key with that exponent made 0
unfoldable pub key_without : (i : ℕ) → ℕ → ℕ
key_without i z = z - key_exponent i z * 16 ^ (key_width - i)

-- a variable whose exponent in a key can be one higher
pub record Raisable (i z : ℕ) : Type 0 where
  pub slot : Slot i
  pub room : key_exponent i z + 1 < 16

-- the key with that exponent one higher
unfoldable pub key_raised : (i : ℕ) → ℕ → ℕ
key_raised i z = z + 16 ^ (key_width - i)

-- ---- all exponents
-- all are even
abbrev pub key_even : ℕ → Bool
key_even z = all_even key_width (key_exponents key_width key_width z)

-- the product of (exponent + 1)
abbrev pub key_divisor : ℕ → ℕ
key_divisor z = divisor key_width (key_exponents key_width key_width z)

-- ---- wide keys: the exponents, then the degree, each with room for the sum of two, since a product's are sums
-- the base of the exponents
abbrev pub wide_base : ℕ
wide_base = 128

-- the places for them, of which a key's exponents take the first four
abbrev pub wide_width : ℕ
wide_width = 8

-- the base of the degree
abbrev pub degree_base : ℕ
degree_base = 256

-- the exponents of a monomial as one number
abbrev pub wide_code : List ℕ → ℕ
wide_code = encode wide_base wide_width

-- the wide key of a monomial
abbrev pub wide_key : List ℕ → ℕ
wide_key k = wide_code k * degree_base + degree k

-- the wide key of a key
unfoldable pub widened : ℕ → ℕ
widened z = wide_key (key_exponents key_width key_width z)

-- the exponents of a wide key, as many as a key has
unfoldable pub wide_exponents : ℕ → List ℕ
wide_exponents z = decode wide_base wide_width key_width (z / degree_base)

-- the degree in a wide key
unfoldable pub wide_degree : ℕ → ℕ
wide_degree z = z % degree_base

-- the key of a wide key
unfoldable pub narrowed : ℕ → ℕ
narrowed z = key key_width (wide_exponents z)
