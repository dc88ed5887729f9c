-- The values that DoubleBits names are those that the kit's account of IEEE 754 reads from the same bits.
use Rattle.std.specs.Prelude.{◌≡◌, Bool, cond, ℕ, zero, suc, ◌+◌, ◌-◌, ◌*◌, ◌^◌, ◌≤◌, ◌<◌, T, eqb, Float, ℤ, pos, ◌*ℤ◌}
use Rattle.std.proofs.Math.Path.{refl}
use Rattle.std.proofs.Common.{sym, ap, ap₂, ◌∙◌, subst, arith, eqb→eq, pow_pos}
use Rattle.std.proofs.Math.Bool.{true, false, not}
use Rattle.std.proofs.Math.Dec.{eqb-suc-zero}
use Rattle.std.specs.Float.{nan, inf, fin}
use Rattle.std.specs.Float.Ieee.{binary64, of_bits, of_fields, odd, up, down}
use Rattle.std.specs.Float.Ieee.Exact.{HasValue, odd_sign}
use Rattle.std.specs.Float.Ieee.Fits.{down_pos}
use Rattle.algebra.specs.RingSolver.{◌⊠◌, ring}
use Rattle.algebra.proofs.Rational.{◌*ℚ◌, whole, reciprocal, ◌÷◌}
use Rattle.algebra.proofs.RationalRing.{ℚR}
use Rattle.algebra.proofs.RationalLaws.{whole-*, whole_reciprocal}
use Rattle.doubles.specs.Doubles.{signed, numerator, denominator, exact, is_finite}
use Rattle.doubles.specs.DoubleBits.{sign_bit, exponent_field, fraction_field, all_ones, digits, places}
use Rattle.doubles.specs.DoubleBits.{smallest_in_one, exact_bits}
use Rattle.doubles.specs.ExactFractionLaws.{signed_times}
open ℚR use {*-one}

clash : true ≡ false → ⊥
clash e = subst (λ b. T b) e tt

-- ---- by the three fields
abbrev digits_of : (x t : ℕ) → ℕ
digits_of x t = cond (eqb x 0) t (2 ^ 52 + t)

field_less : (x : ℕ) → suc x - 1 ≡ x
field_less x = omega arith

double_of_fields : (s : Bool) (x t : ℕ) → eqb x 2047 ≡ false
    → HasValue (of_fields binary64 s x t) s (digits_of x t * 2 ^ (x - 1)) (2 ^ 1074)
unfolding of_fields
double_of_fields s zero t h = odd_sign 53 s t 0 1074
double_of_fields s (suc x) t h =
    subst (λ (b : Bool). HasValue (cond b (cond (eqb t 0) (inf s) nan) whole_digits) s
    (digits_of (suc x) t * 2 ^ (suc x - 1)) (2 ^ 1074)) (sym h)
    (subst (λ (b : Bool). HasValue whole_digits s (cond b t (2 ^ 52 + t) * 2 ^ (suc x - 1)) (2 ^ 1074))
    (sym (eqb-suc-zero x))
    (subst (λ (k : ℕ). HasValue whole_digits s ((2 ^ 52 + t) * 2 ^ k) (2 ^ 1074)) (sym (field_less x))
    (odd_sign 53 s (2 ^ 52 + t) x 1074)))
  where
    whole_digits : Float
    whole_digits = odd 53 s (2 ^ 52 + t) x 1074

value_finite : (x : Float) (s : Bool) (a c : ℕ) → HasValue x s a c → is_finite x ≡ true
unfolding is_finite
value_finite nan s a c h = absurd h
value_finite (inf t) s a c h = absurd h
value_finite (fin t m e) s a c h = refl

of_ones : (s : Bool) (x t : ℕ) → eqb x 2047 ≡ true → is_finite (of_fields binary64 s x t) ≡ false
unfolding of_fields is_finite
of_ones s zero t h = absurd (clash (sym h))
of_ones s (suc x) t h =
    ap (λ (b : Bool). is_finite (cond b (cond (eqb t 0) (inf s) nan) (odd 53 s (2 ^ 52 + t) x 1074))) h
    ∙ either (eqb t 0)
  where
    either : (b : Bool) → is_finite (cond b (inf s) nan) ≡ false
    either true = refl
    either false = refl

-- ---- by the bits
module _ (b : ℕ) where
  -- what has not all ones is finite, and nothing else is
  pub bits_finite : is_finite (of_bits binary64 b) ≡ not (all_ones b)
  unfolding of_bits
  bits_finite = go (all_ones b) refl
    where
      go : (y : Bool) → all_ones b ≡ y → is_finite (of_bits binary64 b) ≡ not y
      go true e = of_ones (sign_bit b) (exponent_field b) (fraction_field b) e
      go false e = value_finite _ _ _ _ (double_of_fields (sign_bit b) (exponent_field b) (fraction_field b) e)

  pub bits_value : all_ones b ≡ false
      → HasValue (of_bits binary64 b) (sign_bit b) (digits b * 2 ^ places b) smallest_in_one
  unfolding of_bits
  bits_value = double_of_fields (sign_bit b) (exponent_field b) (fraction_field b)

  -- there are at most 53 digits, and all 53 of them where they are moved
  pub bits_few : digits b < 2 ^ 53
  bits_few = go (eqb (exponent_field b) 0)
    where
      go : (z : Bool) → cond z (fraction_field b) (2 ^ 52 + fraction_field b) < 2 ^ 53
      go true = omega arith
      go false = omega arith

  pub bits_leading : 0 < places b → 2 ^ 52 ≤ digits b
  bits_leading h = go (eqb (exponent_field b) 0) refl
    where
      go : (z : Bool) → eqb (exponent_field b) 0 ≡ z → 2 ^ 52 ≤ cond z (fraction_field b) (2 ^ 52 + fraction_field b)
      go true e = absurd (omega (arith, eqb→eq (exponent_field b) 0 (subst T (sym e) tt)))
      go false e = omega arith

-- ---- as fractions
fraction_same : (x y : ℤ) (d c : ℕ) → 0 < d → 0 < c → x *ℤ pos c ≡ y *ℤ pos d → whole x ÷ d ≡ whole y ÷ c
unfolding ◌÷◌
fraction_same x y d c hd hc e = sym (*-one (whole x *ℚ reciprocal d))
    ∙ ap (λ z. whole x *ℚ reciprocal d *ℚ z) (sym (whole_reciprocal c hc))
    ∙ ring 4 ℚR (λ x i c k. x ⊠ i ⊠ (c ⊠ k)) (λ x i c k. x ⊠ c ⊠ i ⊠ k) refl (whole x) (reciprocal d) (whole (pos c)) _
    ∙ ap (λ z. z *ℚ reciprocal d *ℚ reciprocal c) (sym (whole-* x (pos c)) ∙ ap whole e ∙ whole-* y (pos d))
    ∙ ring 4 ℚR (λ y d i k. y ⊠ d ⊠ i ⊠ k) (λ y d i k. y ⊠ k ⊠ (d ⊠ i)) refl (whole y) (whole (pos d)) (reciprocal d) _
    ∙ ap (λ z. whole y *ℚ reciprocal c *ℚ z) (whole_reciprocal d hd) ∙ *-one _

value_exact : (x : Float) (s : Bool) (a c : ℕ) → 0 < c → HasValue x s a c → exact x ≡ whole (signed s a) ÷ c
unfolding exact numerator denominator
value_exact nan s a c hc h = absurd h
value_exact (inf t) s a c hc h = absurd h
value_exact (fin t m e) s a c hc h = fraction_same _ _ (down e) c (down_pos e) hc
    (signed_times t (m * up e) c ∙ ap₂ signed h.0 h.1 ∙ sym (signed_times s a (down e)))

-- THE VALUE OF EVERY FINITE BIT PATTERN
pub bits_exact : (b : ℕ) → all_ones b ≡ false → exact (of_bits binary64 b) ≡ exact_bits b
unfolding exact_bits
bits_exact b h = value_exact (of_bits binary64 b) (sign_bit b) (digits b * 2 ^ places b) smallest_in_one (pow_pos 1074)
    (bits_value b h)
