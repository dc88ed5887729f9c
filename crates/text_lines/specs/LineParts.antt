-- What a line is put from: a term by its key, two ends, q and r by their numbers.
use Rattle.std.specs.Prelude.{List, ℕ, ◌≤◌, T, ℤ}
use Rattle.calculus.specs.Key.{key_width, key_fits, monomial_of}
use Rattle.calculus.specs.Terms.{term}
use Rattle.calculus.specs.Operations.{Ends, Mixed}
use Rattle.format.specs.Lines.{term_line}

-- a key without exponents above n, and an n that is not above the width of keys
pub record KeyIn (n key : ℕ) : Type 0 where
  pub width : n ≤ key_width
  pub fits : T (key_fits key_width n key)

-- the line of a term by its key
abbrev pub key_line : (n key : ℕ) → ℤ → List ℕ
key_line n key coefficient = term_line (term coefficient (monomial_of n key))

-- two ends
abbrev pub ends : (low high : ℤ) → Ends
ends low high = record { low = low; high = high }

-- q and r
abbrev pub mixed : (quotient : ℤ) (remainder : ℕ) → Mixed
mixed quotient remainder = record { quotient = quotient; remainder = remainder }
