-- Facts beside the enclosure. It is not empty: every curve that is accepted has functions within it. And it is not true
-- of every answer: a constant double is within a constant model only if the radius covers what was rounded.
use Rattle.std.specs.Prelude.{◌≡◌, refl, true, false, not, ◌&&◌, [], ◌∷◌, ℕ, ◌+◌, ◌*◌, ◌^◌, ◌≤◌, ◌<◌, T, Float, ℤ, pos, nat_abs, ◌-ℤ◌, ◌*ℤ◌}
use Rattle.std.proofs.Common.{sym, ◌∙◌, ap, subst, arith, leb→le, nltb→le, lit<}
use Rattle.std.proofs.Math.Nat as NatL
use Rattle.std.specs.Float.{nan, inf, fin, binary64}
use Rattle.std.specs.Float.Ieee.{up, down, lt, of_bits}
use Rattle.std.specs.Float.Ieee.Fits.{down_pos, and_r}
use Rattle.algebra.specs.Ring.{pow}
use Rattle.algebra.specs.RingLaws.{zero-*}
use Rattle.algebra.specs.RingSolver.{𝟎, 𝟏, ◌⊞◌, ◌⊟◌, ◌⊠◌, ⊝◌, ring}
use Rattle.algebra.specs.Ordered.{abs}
use Rattle.algebra.specs.OrderedLaws.{abs_mul, abs_pos, abs_is, abs_is⁻, *-mono}
use Rattle.algebra.specs.FieldLaws.{reciprocal_nonneg}
use Rattle.algebra.proofs.Rational.{ℚ, ◌+ℚ◌, ◌*ℚ◌, negℚ, whole, ◌≤ℚ◌, reciprocal, ◌÷◌}
use Rattle.algebra.proofs.RationalRing.{ℚR}
use Rattle.algebra.proofs.RationalOrder.{ℚO}
use Rattle.algebra.proofs.RationalField.{ℚF}
use Rattle.algebra.proofs.RationalLaws.{whole-+, whole-*, whole_neg, ≤-whole, whole_reciprocal}
use Rattle.polynomial.specs.Polynomial.{monomial}
use Rattle.polynomial.specs.Box.{none, more}
use Rattle.numbers.specs.Computing.{numbers}
use Rattle.numbers.specs.Fixed.{U}
use Rattle.calculus.specs.Terms.{term}
use Rattle.calculus.specs.Model.{Model, ◌-ℚ◌, distance, Point, InBox, Within}
use Rattle.calculus.specs.Refusal.{bad_double, done}
use Rattle.calculus_laws.specs.RefusalLaws.{if_done, placed, require_at_done}
use Rattle.calculus_laws.specs.UnitLaws.{natural, natural-*, natural_≤, natural_nonneg, abs_whole}
use Rattle.calculus_laws.specs.ValueLaws.{scaled_value, Near, at_near, scaled_nil, scaled_cons, abs_zero}
use Rattle.calculus_laws.specs.EnclosureLaws.{limited_accepted}
use Rattle.calculus_laws.specs.ChainLaws.{◌≤≤◌, ◌≡≤◌, ◌≤≡◌, equal}
use Rattle.doubles.specs.Computing.{conversions}
use Rattle.doubles.specs.Doubles.{Delivery, signed, numerator, denominator, exact, is_finite, is_negative}
use Rattle.doubles.specs.Doubles.{their_value, WithinTheirs, units, converted, deliverable, call_doubles}
use Rattle.doubles.proofs.WithinTheirsLaws.{denominator_pos, U_exact}
open ℚR use {+-neg, *-one}

-- ---- the hypothesis can be met
over_nonneg : (n d : ℕ) → 0 < d → natural 0 ≤ℚ natural n ÷ d
unfolding ◌÷◌
over_nonneg n d h = sym (zero-* ℚR (reciprocal d)) ≡≤ *-mono ℚO (reciprocal_nonneg ℚF d h) (natural_nonneg n)

-- what IEEE 754 does not call negative is not negative
pub not_negative : (x : Float) → T (not (is_negative x)) → natural 0 ≤ℚ exact x
unfolding is_negative lt exact numerator denominator signed
not_negative nan h = over_nonneg 0 1 (omega arith)
not_negative (inf s) h = over_nonneg 0 1 (omega arith)
not_negative (fin false m e) h = over_nonneg (m * up e) (down e) (down_pos e)
not_negative (fin true m e) h =
    let none : m * up e ≡ 0 = omega (arith, nltb→le 0 (m * up e * 1 + 0 * 1 * down e) h) in
    subst (λ n. natural 0 ≤ℚ whole (signed true n) ÷ down e) (sym none) (over_nonneg 0 (down e) (down_pos e))

-- the curve itself is within a radius that is not negative
pub own_within : (c : Delivery) → T (not (is_negative c.radius)) → WithinTheirs (their_value c) c
unfolding WithinTheirs distance
own_within c h x b = ap (abs ℚO) (+-neg (their_value c x)) ≡≤ abs_zero ≤≤ not_negative c.radius h

-- and so are the functions that are the whole radius above and below it
pub edges_within : (c : Delivery) → T (not (is_negative c.radius))
    → WithinTheirs (λ x. their_value c x +ℚ exact c.radius) c
    × WithinTheirs (λ x. their_value c x -ℚ exact c.radius) c
unfolding WithinTheirs distance
edges_within c h = (
  (λ x b. equal (abs_is ℚO (not_negative c.radius h)
      (ring 2 ℚR (λ v r. v ⊞ r ⊟ v) (λ v r. r) refl (their_value c x) (exact c.radius)))),
  (λ x b. equal (abs_is⁻ ℚO (not_negative c.radius h)
      (ring 2 ℚR (λ v r. v ⊟ r ⊟ v) (λ v r. ⊝ r) refl (their_value c x) (exact c.radius)))),
)

last_test : (c : Delivery) → T (deliverable c) → T (not (is_negative c.radius))
unfolding deliverable
last_test c t =
    and_r (is_finite c.c0 && is_finite c.c1 && is_finite c.c2 && is_finite c.radius)
    (not (is_negative c.radius)) t

-- so every accepted curve has a function within it
pub accepted_own : (c : Delivery) (m : Model) → call_doubles c ≡ done m → WithinTheirs (their_value c) c
unfolding call_doubles
accepted_own c m e = if_done {P = λ m. WithinTheirs (their_value c) c}
    (require_at_done 0 (deliverable c) bad_double _ (λ t. placed 0
    (limited_accepted {P = λ m. WithinTheirs (their_value c) c} (converted c) (own_within c (last_test c t))))) e

-- ---- wrong answers are refuted
-- the constant c / U with a radius
unfoldable pub constant_model : ℤ → (radius : ℕ) → Model
constant_model c r = record { vars = 1; radius = r; terms = term c (0 ∷ []) ∷ [] }

-- a point of the box
abbrev origin : Point
origin = natural 0 ∷ []

inside : InBox 1 origin
inside = more (abs_zero ≤≤ natural_≤ 0 1 (omega arith)) none

constant_value : (c : ℤ) → scaled_value (term c (0 ∷ []) ∷ []) origin ≡ whole c
unfolding monomial pow
constant_value c = scaled_cons origin _ _ ∙ ap (λ z. whole c *ℚ monomial ℚR (0 ∷ []) origin +ℚ z) (scaled_nil origin)
    ∙ ring 1 ℚR (λ c. c ⊠ (𝟏 ⊠ 𝟏) ⊞ 𝟎) (λ c. c) refl (whole c)

-- a double is within it only if |U x - c| is at most the radius
pub constant_needs : (x : Float) (c : ℤ) (r : ℕ) → Within (λ p. exact x) (constant_model c r)
    → nat_abs (units x -ℤ c *ℤ pos (denominator x)) ≤ r * denominator x
unfolding Within constant_model Near
constant_needs x c r h =
    leb→le _ _ (≤-whole (pos (nat_abs z)) (pos (r * d)) (sym (abs_whole z) ≡≤ scaled ≤≡ sym (natural-* r d))).le
  where
    d : ℕ
    d = denominator x

    z : ℤ
    z = units x -ℤ c *ℤ pos d

    i : ℚ
    i = reciprocal d

    near : abs ℚO (natural U *ℚ exact x -ℚ scaled_value (term c (0 ∷ []) ∷ []) origin) ≤ℚ natural r
    near = at_near (constant_model c r) origin (exact x) (h origin inside)

    difference : (natural U *ℚ exact x -ℚ scaled_value (term c (0 ∷ []) ∷ []) origin) *ℚ natural d ≡ whole z
    difference = ap (λ v. (v -ℚ scaled_value (term c (0 ∷ []) ∷ []) origin) *ℚ natural d) (U_exact x)
        ∙ ap (λ v. (whole (units x) *ℚ i -ℚ v) *ℚ natural d) (constant_value c)
        ∙ ring 4 ℚR (λ n i c d. (n ⊠ i ⊟ c) ⊠ d) (λ n i c d. n ⊠ (d ⊠ i) ⊟ c ⊠ d) refl (whole (units x)) i (whole c) _
        ∙ ap (λ v. whole (units x) *ℚ v -ℚ whole c *ℚ natural d) (whole_reciprocal d (denominator_pos x))
        ∙ ap (λ v. v -ℚ whole c *ℚ natural d) (*-one (whole (units x)))
        ∙ sym (whole-+ (units x) _
        ∙ ap (λ v. whole (units x) +ℚ v) (whole_neg (c *ℤ pos d) ∙ ap negℚ (whole-* c (pos d))))

    scaled : abs ℚO (whole z) ≤ℚ (natural r *ℚ natural d)
    scaled = ap (abs ℚO) (sym difference) ∙ abs_mul ℚO _ (natural d)
        ∙ ap (λ v. abs ℚO (natural U *ℚ exact x -ℚ scaled_value (term c (0 ∷ []) ∷ []) origin) *ℚ v)
        (abs_pos ℚO (natural_nonneg d))
        ≡≤ *-mono ℚO (natural_nonneg d) near

-- 0.5 / U, 1.5 / U and the smallest double
abbrev half : Float
half = of_bits binary64 (1002 * 2 ^ 52)

abbrev one_and_half : Float
one_and_half = of_bits binary64 (1003 * 2 ^ 52 + 2 ^ 51)

abbrev smallest : Float
smallest = of_bits binary64 1

-- no term and no 1 for an inexact coefficient
pub half_refutes : Within (λ p. exact half) (constant_model (pos 0) 0) → ⊥
unfolding numbers conversions
half_refutes h = NatL.not-le_of_lt (lit< tt) (constant_needs half (pos 0) 0 h)

-- a coefficient cut off
pub cut_refutes : Within (λ p. exact one_and_half) (constant_model (pos 1) 0) → ⊥
unfolding numbers conversions
cut_refutes h = NatL.not-le_of_lt (lit< tt) (constant_needs one_and_half (pos 1) 0 h)

-- the smallest radius lost: the smallest double is within it, and is no longer within a radius of 0
pub smallest_refutes : Within (λ p. exact smallest) (constant_model (pos 0) 0) → ⊥
unfolding numbers conversions
smallest_refutes h = NatL.not-le_of_lt (lit< tt) (constant_needs smallest (pos 0) 0 h)
