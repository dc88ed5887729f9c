-- A double taken apart, and the model that the parts of four doubles give.
use Rattle.std.specs.Prelude.{◌≡◌, true, false, cond, ℕ, ◌+◌, ◌-◌, ◌*◌, ◌%◌, ◌^◌, ◌≤◌, ◌<◌, min, Float}
use Rattle.std.specs.Float.Ieee.Exact.{HasValue}
use Rattle.numbers.specs.Division.{divided_up, nearest}
use Rattle.calculus.specs.Model as C
use Rattle.calculus.specs.Operations.{one_if_any}
use Rattle.doubles.specs.Doubles.{is_finite, signed, model_of}
use Rattle.doubles.specs.DoubleBits.{sign_bit, all_ones, digits, places, smallest_in_one}
use Rattle.model_doubles.specs.declared.Parts.{Parts}
use Rattle.model_doubles.specs.declared.Scaled.{Scaled}

-- what stands for a value that is not finite
abbrev pub not_finite : Parts
not_finite = record { finite = false; negative = false; digits = 0; places = 0 }

-- the parts of a bit pattern
abbrev pub parts_of_bits : ℕ → Parts
parts_of_bits b = cond (all_ones b) not_finite
    (record { finite = true; negative = sign_bit b; digits = digits b; places = places b })

-- what they are worth: the value is digits × 2^places of the smallest double; there are at most 53 digits, and all 53
-- of them where they are moved
pub record Worth (x : Float) (p : Parts) : Type 0 where
  pub finite_same : p.finite ≡ is_finite x
  pub few : p.digits < 2 ^ 53
  pub leading : 0 < p.places → 2 ^ 52 ≤ p.digits
  pub value : p.finite ≡ true → HasValue x p.negative (p.digits * 2 ^ p.places) smallest_in_one

-- with so many places the digits are U times the value: U × 2^1054 smallest doubles make 1 (ScaledPartsLaws `U_point`)
abbrev pub point : ℕ
point = 1054

-- with fewer they are divided by a power of 2; what 2^55 leaves of 53 digits is left by any larger divisor
unfoldable pub divisor : ℕ → ℕ
divisor places = 2 ^ min (point - places) 55

-- the coefficient and whether it is inexact, as the code answers them
abbrev pub scaled : Parts → Scaled
scaled p = record {
  coefficient = nearest (signed p.negative p.digits) (divisor p.places);
  inexact = one_if_any (p.digits % divisor p.places);
}

-- digits and places that can be divided
pub record Moderate (a b c e : Parts) : Type 0 where
  pub few_0 : a.digits < 2 ^ 53
  pub few_1 : b.digits < 2 ^ 53
  pub few_2 : c.digits < 2 ^ 53
  pub few_3 : e.digits < 2 ^ 53
  pub low_0 : a.places ≤ point
  pub low_1 : b.places ≤ point
  pub low_2 : c.places ≤ point
  pub low_3 : e.places ≤ point

-- the model that four doubles taken apart become
abbrev pub model_of_parts : (a b c e : Parts) → C.Model
model_of_parts a b c e =
    model_of (scaled a).coefficient (scaled b).coefficient (scaled c).coefficient
    (divided_up e.digits (divisor e.places) + (scaled a).inexact + (scaled b).inexact + (scaled c).inexact)
