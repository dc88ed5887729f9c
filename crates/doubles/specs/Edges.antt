-- Edge cases of a curve in doubles, from bits, by computation.
use Rattle.std.specs.Prelude.{◌≡◌, refl, Bool, true, false, cond, [], ◌∷◌, ℕ, ◌+◌, ◌-◌, ◌*◌, ◌^◌, ℤ, pos, neg_ℤ}
use Rattle.numbers.specs.Computing.{numbers}
use Rattle.calculus.specs.Computing.{runs}
use Rattle.calculus.specs.Terms.{term}
use Rattle.calculus.specs.Model.{Model}
use Rattle.calculus.specs.Refusal.{bad_double, over_span, Result, done, stopped}
use Rattle.doubles.specs.Computing.{conversions}
use Rattle.doubles.specs.Doubles.{Delivery, call_doubles}
use Rattle.doubles.specs.DoubleBits.{sign_bit, digits, places, smallest_in_one, double_of_bits}

-- ---- bits, by their three fields
abbrev bits : Bool → (exponent fraction : ℕ) → ℕ
bits s x f = cond s (2 ^ 63) 0 + x * 2 ^ 52 + f

abbrev plus : (exponent fraction : ℕ) → ℕ
plus = bits false

abbrev minus : (exponent fraction : ℕ) → ℕ
minus = bits true

-- the highest fraction
abbrev full : ℕ
full = 2 ^ 52 - 1

-- ---- curves
abbrev constant : ℕ → Delivery
constant b = double_of_bits b 0 0 0

abbrev linear : ℕ → Delivery
linear b = double_of_bits 0 b 0 0

abbrev quadratic : ℕ → Delivery
quadratic b = double_of_bits 0 0 b 0

abbrev radius_alone : ℕ → Delivery
radius_alone b = double_of_bits 0 0 0 b

-- ---- answers
abbrev without_terms : (radius : ℕ) → Result Model
without_terms e = done (record { vars = 1; radius = e; terms = [] })

abbrev one_term : ℤ → (power radius : ℕ) → Result Model
one_term c k e = done (record { vars = 1; radius = e; terms = term c (k ∷ []) ∷ [] })

-- the same bits in each of the four places are answered alike
abbrev Everywhere : ℕ → Result Model → Type 0
Everywhere b r =
    (call_doubles (constant b) ≡ r)
    × (call_doubles (linear b) ≡ r)
    × (call_doubles (quadratic b) ≡ r)
    × (call_doubles (radius_alone b) ≡ r)

abbrev bad : Result Model
bad = stopped bad_double 0

abbrev over : Result Model
over = stopped over_span 0

-- ---- the values of bits, in smallest doubles
pub values :
    -- the smallest double, the largest subnormal one, and the next one, 2^-1022
    (digits (plus 0 1) * 2 ^ places (plus 0 1) ≡ 1)
    × (digits (plus 0 full) * 2 ^ places (plus 0 full) ≡ 2 ^ 52 - 1)
    × (digits (plus 1 0) * 2 ^ places (plus 1 0) ≡ 2 ^ 52)
    -- 1, the double after it, and -2.5
    × (digits (plus 1023 0) * 2 ^ places (plus 1023 0) ≡ smallest_in_one)
    × (2 ^ 52 * (digits (plus 1023 1) * 2 ^ places (plus 1023 1)) ≡ (2 ^ 52 + 1) * smallest_in_one)
    × (2 * (digits (minus 1024 (2 ^ 50)) * 2 ^ places (minus 1024 (2 ^ 50))) ≡ 5 * smallest_in_one)
    × (sign_bit (minus 1024 (2 ^ 50)) ≡ true)
    × (sign_bit (plus 2046 full) ≡ false)
values = (refl, refl, refl, refl, refl, refl, refl, refl)

-- ---- coefficients
pub ties :
    -- 0.5 / U, 1.5 / U, 2.5 / U: to the even one; what rounds to 0 leaves no term, and is inexact
    (call_doubles (constant (plus 1002 0)) ≡ without_terms 1)
    × (call_doubles (constant (plus 1003 (2 ^ 51))) ≡ one_term (pos 2) 0 1)
    × (call_doubles (constant (plus 1004 (2 ^ 50))) ≡ one_term (pos 2) 0 1)
    -- and their negatives
    × (call_doubles (constant (minus 1002 0)) ≡ without_terms 1)
    × (call_doubles (constant (minus 1003 (2 ^ 51))) ≡ one_term (neg_ℤ (pos 2)) 0 1)
    × (call_doubles (constant (minus 1004 (2 ^ 50))) ≡ one_term (neg_ℤ (pos 2)) 0 1)
    -- the doubles below and above each of them
    × (call_doubles (constant (plus 1001 full)) ≡ without_terms 1)
    × (call_doubles (constant (plus 1002 1)) ≡ one_term (pos 1) 0 1)
    × (call_doubles (constant (plus 1003 (2 ^ 51 - 1))) ≡ one_term (pos 1) 0 1)
    × (call_doubles (constant (plus 1003 (2 ^ 51 + 1))) ≡ one_term (pos 2) 0 1)
    × (call_doubles (constant (plus 1004 (2 ^ 50 - 1))) ≡ one_term (pos 2) 0 1)
    × (call_doubles (constant (plus 1004 (2 ^ 50 + 1))) ≡ one_term (pos 3) 0 1)
    × (call_doubles (constant (minus 1001 full)) ≡ without_terms 1)
    × (call_doubles (constant (minus 1002 1)) ≡ one_term (neg_ℤ (pos 1)) 0 1)
    × (call_doubles (constant (minus 1004 (2 ^ 50 + 1))) ≡ one_term (neg_ℤ (pos 3)) 0 1)
    -- in the other places
    × (call_doubles (linear (minus 1003 (2 ^ 51))) ≡ one_term (neg_ℤ (pos 2)) 1 1)
    × (call_doubles (quadratic (plus 1004 (2 ^ 50 + 1))) ≡ one_term (pos 3) 2 1)
unfolding numbers runs conversions
ties = (
  refl,
  refl,
  refl,
  refl,
  refl,
  refl,
  refl,
  refl,
  refl,
  refl,
  refl,
  refl,
  refl,
  refl,
  refl,
  refl,
  refl,
)

pub exact_values :
    -- 1, and 1 / U
    (call_doubles (constant (plus 1023 0)) ≡ one_term (pos 1048576) 0 0)
    × (call_doubles (constant (plus 1003 0)) ≡ one_term (pos 1) 0 0)
    -- 1.5 - 0.25 x + x² / U with the radius 1 / U: all three exact
    × (call_doubles (double_of_bits (plus 1023 (2 ^ 51)) (minus 1021 0) (plus 1003 0) (plus 1003 0)) ≡ done (record {
      vars = 1;
      radius = 1;
      terms = term (pos 1572864) (0 ∷ []) ∷ term (neg_ℤ (pos 262144)) (1 ∷ []) ∷ term (pos 1) (2 ∷ []) ∷ [];
    }))
    -- the three of them inexact: 1 + 0.5 / U, -2.5 / U and 0.5 / U, whose term is left out; the radius 0.5 / U
    × (call_doubles (double_of_bits (plus 1023 (2 ^ 31)) (minus 1004 (2 ^ 50)) (plus 1002 0) (plus 1002 0)) ≡ done
    (record {
      vars = 1;
      radius = 4;
      terms = term (pos 1048576) (0 ∷ []) ∷ term (neg_ℤ (pos 2)) (1 ∷ []) ∷ [];
    }))
unfolding numbers runs conversions
exact_values = (refl, refl, refl, refl)

-- ---- the smallest and the largest
pub small :
    -- the smallest subnormal double, the largest one, and 2^-1022: a coefficient rounds to 0 and is inexact, a radius
    -- is rounded up to 1
    Everywhere (plus 0 1) (without_terms 1)
    × Everywhere (plus 0 full) (without_terms 1)
    × Everywhere (plus 1 0) (without_terms 1)
    × (call_doubles (constant (minus 0 1)) ≡ without_terms 1)
    × (call_doubles (linear (minus 0 full)) ≡ without_terms 1)
    × (call_doubles (quadratic (minus 1 0)) ≡ without_terms 1)
    -- zero and minus zero
    × Everywhere (plus 0 0) (without_terms 0)
    × Everywhere (minus 0 0) (without_terms 0)
    × (call_doubles (double_of_bits (minus 0 0) (minus 0 0) (minus 0 0) (minus 0 0)) ≡ without_terms 0)
unfolding numbers runs conversions
small = (
  (refl, refl, refl, refl),
  (refl, refl, refl, refl),
  (refl, refl, refl, refl),
  refl,
  refl,
  refl,
  (refl, refl, refl, refl),
  (refl, refl, refl, refl),
  refl,
)

pub large :
    -- the largest finite double, and 2^1023
    Everywhere (plus 2046 full) over
    × Everywhere (plus 2046 0) over
    × (call_doubles (constant (minus 2046 full)) ≡ over)
    × (call_doubles (quadratic (minus 2046 0)) ≡ over)
    -- the first exponent that is not divided, 2^33, and the last one that is
    × (call_doubles (constant (plus 1056 0)) ≡ over)
    × (call_doubles (linear (minus 1055 0)) ≡ over)
unfolding numbers runs conversions
large = ((refl, refl, refl, refl), (refl, refl, refl, refl), refl, refl, refl, refl)

-- ---- refusals
pub not_finite :
    -- the infinities
    Everywhere (plus 2047 0) bad
    × Everywhere (minus 2047 0) bad
    -- NaNs: quiet, signalling, with every digit, with a sign
    × Everywhere (plus 2047 (2 ^ 51)) bad
    × Everywhere (plus 2047 1) bad
    × Everywhere (plus 2047 full) bad
    × Everywhere (minus 2047 (2 ^ 51)) bad
    × Everywhere (minus 2047 1) bad
unfolding numbers runs conversions
not_finite = (
  (refl, refl, refl, refl),
  (refl, refl, refl, refl),
  (refl, refl, refl, refl),
  (refl, refl, refl, refl),
  (refl, refl, refl, refl),
  (refl, refl, refl, refl),
  (refl, refl, refl, refl),
)

pub refused_radius :
    -- a negative radius, down to the smallest; minus zero is none
    (call_doubles (radius_alone (minus 0 1)) ≡ bad)
    × (call_doubles (radius_alone (minus 0 full)) ≡ bad)
    × (call_doubles (radius_alone (minus 1003 0)) ≡ bad)
    × (call_doubles (radius_alone (minus 2046 full)) ≡ bad)
    × (call_doubles (double_of_bits (plus 1023 0) 0 0 (minus 0 0)) ≡ one_term (pos 1048576) 0 0)
    -- 16 comes before 7
    × (call_doubles (double_of_bits (plus 2046 0) 0 0 (minus 0 1)) ≡ bad)
    × (call_doubles (double_of_bits (plus 2046 0) 0 (plus 2047 1) 0) ≡ bad)
    × (call_doubles (double_of_bits (plus 2047 0) 0 0 (plus 2046 full)) ≡ bad)
    -- a radius is rounded up: 1 / U, just above it, just below it
    × (call_doubles (radius_alone (plus 1003 0)) ≡ without_terms 1)
    × (call_doubles (radius_alone (plus 1003 1)) ≡ without_terms 2)
    × (call_doubles (radius_alone (plus 1002 full)) ≡ without_terms 1)
unfolding numbers runs conversions
refused_radius = (refl, refl, refl, refl, refl, refl, refl, refl, refl, refl, refl)

pub spans :
    -- 1024 is the whole span; 1 / U more is refused, in a coefficient, a radius and by the 1 of an inexact coefficient
    (call_doubles (constant (plus 1033 0)) ≡ one_term (pos 1073741824) 0 0)
    × (call_doubles (radius_alone (plus 1033 0)) ≡ without_terms 1073741824)
    × (call_doubles (radius_alone (plus 1033 1)) ≡ over)
    × (call_doubles (double_of_bits (minus 1033 0) 0 0 (plus 1003 0)) ≡ over)
    × (call_doubles (double_of_bits (plus 1033 0) (minus 1003 0) 0 0) ≡ over)
    × (call_doubles (double_of_bits (minus 1033 0) 0 (plus 0 1) 0) ≡ over)
    -- 1024 - 0.5 / U is a tie that goes up, and inexact
    × (call_doubles (constant (plus 1032 (2 ^ 52 - 2 ^ 22))) ≡ over)
    -- 512 - 256 x + (256 - 1 / U) x² with 1 / U, and with 2 / U
    × (call_doubles (double_of_bits (plus 1032 0) (minus 1031 0) (plus 1030 (2 ^ 52 - 2 ^ 25)) (plus 1003 0)) ≡ done
    (record {
      vars = 1;
      radius = 1;
      terms =
          term (pos 536870912) (0 ∷ []) ∷ term (neg_ℤ (pos 268435456)) (1 ∷ []) ∷ term (pos 268435455) (2 ∷ []) ∷ [];
    }))
    × (call_doubles (double_of_bits (plus 1032 0) (minus 1031 0) (plus 1030 (2 ^ 52 - 2 ^ 25)) (plus 1004 0)) ≡ over)
unfolding numbers runs conversions
spans = (refl, refl, refl, refl, refl, refl, refl, refl, refl)
