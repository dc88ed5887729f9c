-- The 64 bits of a double as IEEE 754 lays them out (binary64): the sign, then 11 bits of the exponent's field, then 52
-- bits of the fraction; and the value that they stand for, as a fraction. The kit's reading of bits, `of_bits`, has the
-- same values (ExactBitsLaws, `bits_exact`).
use Rattle.std.specs.Prelude.{Bool, cond, ℕ, ◌+◌, ◌-◌, ◌*◌, ◌/◌, ◌%◌, ◌^◌, eqb, leb}
use Rattle.std.specs.Float.{binary64}
use Rattle.std.specs.Float.Ieee.{of_bits}
use Rattle.algebra.proofs.Rational.{ℚ, whole, ◌÷◌}
use Rattle.doubles.specs.Doubles.{Delivery, signed}

-- set for a negative number
abbrev pub sign_bit : ℕ → Bool
sign_bit b = leb (2 ^ 63) b

-- the exponent's field, 0 to 2047
abbrev pub exponent_field : ℕ → ℕ
exponent_field b = b % 2 ^ 63 / 2 ^ 52

-- the fraction's field
abbrev pub fraction_field : ℕ → ℕ
fraction_field b = b % 2 ^ 52

-- an exponent's field of all ones stands for an infinity or a NaN
abbrev pub all_ones : ℕ → Bool
all_ones b = eqb (exponent_field b) 2047

-- the digits: the fraction's field after a leading 1, which numbers with an exponent's field of 0 (subnormal ones, and
-- zero) do not have
abbrev pub digits : ℕ → ℕ
digits b = cond (eqb (exponent_field b) 0) (fraction_field b) (2 ^ 52 + fraction_field b)

-- how many places they are moved up from where subnormal numbers have them: a field of 0 and one of 1 have them alike
abbrev pub places : ℕ → ℕ
places b = exponent_field b - 1

-- a field of f stands for the exponent f - 1023
abbrev pub bias : ℕ
bias = 1023

-- so many of the smallest double make 1: the least exponent is 1 - 1023, and 52 digits are after the point
abbrev pub smallest_in_one : ℕ
smallest_in_one = 2 ^ (bias - 1 + 52)

-- the value of what is finite: (-1)^sign × digits × 2^places × 2^-1074
unfoldable pub exact_bits : ℕ → ℚ
exact_bits b = whole (signed (sign_bit b) (digits b * 2 ^ places b)) ÷ smallest_in_one

-- a curve from the bits of its four doubles
abbrev pub double_of_bits : (c0 c1 c2 radius : ℕ) → Delivery
double_of_bits c0 c1 c2 e = record {
  c0 = of_bits binary64 c0;
  c1 = of_bits binary64 c1;
  c2 = of_bits binary64 c2;
  radius = of_bits binary64 e;
}
