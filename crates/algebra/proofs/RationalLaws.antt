-- The whole numbers in ℚ; inverses and division.
use Rattle.std.specs.Prelude.{◌≡◌, ◌≢◌, ℕ, zero, suc, ◌≤◌, ℤ, pos, negsuc, neg_ℤ, ◌+ℤ◌, ◌*ℤ◌, ◌≤ℤ◌}
use Rattle.std.proofs.Math.Path.{refl}
use Rattle.std.proofs.Common.{sym, ◌∙◌, ap, subst, subst₂, arith}
use mathlib.Core.HLevel.{Π_prop}
use Rattle.std.proofs.Math.IntN.{zero-*ℤ}
use Rattle.algebra.specs.Integer.{is_nat}
use Rattle.algebra.specs.Ring.{nat}
use Rattle.algebra.specs.RingLaws.{nat_zero, nat_suc, one-*}
use Rattle.algebra.specs.RingSolver.{𝟏, ◌⊞◌, ◌⊠◌, ⊝◌, ring}
use Rattle.algebra.specs.IntegerRing.{ℤR, ℤO, eq_of}
use Rattle.algebra.specs.Fraction.{Frac, one_more, denominator, Same, over_1, over, sum, product, negation}
use Rattle.algebra.specs.Fraction.{inversion}
use Rattle.algebra.proofs.FractionLaws.{one_more_zero, one_more_times}
use Rattle.algebra.proofs.Rational.{ℚ, class, ℚ_set, class_sound, ◌+ℚ◌, ◌*ℚ◌, negℚ, inverse, ◌≤ℚ◌, whole, ◌/ℚ◌}
use Rattle.algebra.proofs.Rational.{reciprocal, ◌÷◌, sum_class}
use Rattle.algebra.proofs.Rational.{product_class, negation_class, inverse_class, ℚ_ind}
use Rattle.algebra.proofs.RationalRing.{ℚR}
use Rattle.algebra.proofs.RationalOrder.{class_≤, ≤-class, ℚO}

-- ---- the whole numbers
pub whole-+ : (a b : ℤ) → whole (a +ℤ b) ≡ whole a +ℚ whole b
unfolding whole over_1 sum Same
whole-+ a b = simp sum_class (class_sound _ _ (simp (one_more_times, one_more_zero)
    (ring 2 ℤR (λ a b. (a ⊞ b) ⊠ (𝟏 ⊠ 𝟏)) (λ a b. (a ⊠ 𝟏 ⊞ b ⊠ 𝟏) ⊠ 𝟏) refl a b)))

pub whole-* : (a b : ℤ) → whole (a *ℤ b) ≡ whole a *ℚ whole b
unfolding whole over_1 product Same
whole-* a b = simp product_class (class_sound _ _ (simp (one_more_times, one_more_zero)
    (ring 2 ℤR (λ a b. (a ⊠ b) ⊠ (𝟏 ⊠ 𝟏)) (λ a b. (a ⊠ b) ⊠ 𝟏) refl a b)))

pub whole_neg : (a : ℤ) → whole (neg_ℤ a) ≡ negℚ (whole a)
unfolding whole over_1 negation
whole_neg a = sym (negation_class _)

over_1_cross : (a : ℤ) → a *ℤ one_more 0 ≡ a
over_1_cross a = ap (λ d. a *ℤ d) one_more_zero ∙ ℤR.*-one a

pub whole_≤ : {a b : ℤ} → a ≤ℤ b → whole a ≤ℚ whole b
unfolding whole over_1
whole_≤ {a} {b} h = class_≤ (over_1 a) (over_1 b) (subst₂ ◌≤ℤ◌ (sym (over_1_cross a)) (sym (over_1_cross b)) h)

pub ≤-whole : (a b : ℤ) → whole a ≤ℚ whole b → a ≤ℤ b
unfolding whole over_1
≤-whole a b h = subst₂ ◌≤ℤ◌ (over_1_cross a) (over_1_cross b) (≤-class (over_1 a) (over_1 b) h)

pub whole_injective : (a b : ℤ) → whole a ≡ whole b → a ≡ b
whole_injective a b e = ℤO.≤-antisym (≤-whole a b (subst (λ x. whole a ≤ℚ x) e (ℚO.≤-refl (whole a))))
    (≤-whole b a (subst (λ x. x ≤ℚ whole a) e (ℚO.≤-refl (whole a))))

pub nat_whole : (n : ℕ) → nat ℚR n ≡ whole (pos n)
nat_whole zero = nat_zero ℚR
nat_whole (suc n) = nat_suc ℚR n ∙ ap (λ x. whole (pos 1) +ℚ x) (nat_whole n) ∙ sym (whole-+ (pos 1) (pos n))
    ∙ ap (λ k. whole (pos k)) (omega arith)

-- ---- inverses and division
-- a fraction times its inverse, by the sign of the numerator
product_inversion : (a : ℤ) (d : ℕ) → a ≢ pos 0
    → Same (product (record { numerator = a; denominator_1 = d }) (over (one_more d) a)) (over_1 (pos 1))
unfolding Same product over over_1
product_inversion (pos zero) d h = absurd (h refl)
product_inversion (pos (suc n)) d h = simp (one_more_times, one_more_zero) (unfold one_more in
    ring 2 ℤR (λ a d. a ⊠ d ⊠ 𝟏) (λ a d. 𝟏 ⊠ (d ⊠ a)) refl (one_more n) (one_more d))
product_inversion (negsuc n) d h = simp (one_more_times, one_more_zero) (unfold one_more in
    ring 2 ℤR (λ a d. ⊝ a ⊠ ⊝ d ⊠ 𝟏) (λ a d. 𝟏 ⊠ (d ⊠ a)) refl (one_more n) (one_more d))

class_zero : (p : Frac) → p.numerator ≡ pos 0 → class p ≡ whole (pos 0)
unfolding whole over_1 Same
class_zero p e = class_sound p (over_1 (pos 0))
    (ap (λ a. a *ℤ one_more 0) e ∙ zero-*ℤ (one_more 0) ∙ sym (zero-*ℤ (denominator p)))

pub *-inverse : (x : ℚ) → x ≢ whole (pos 0) → x *ℚ inverse x ≡ whole (pos 1)
unfolding inversion whole
*-inverse = ℚ_ind (λ x. Π_prop (λ h. ℚ_set _ _)) (λ p h. simp (inverse_class, product_class)
    (class_sound _ _ (product_inversion p.numerator p.denominator_1 (λ e. h (class_zero p e)))))

pub /ℚ_back : (x y : ℚ) → y ≢ whole (pos 0) → y *ℚ (x /ℚ y) ≡ x
unfolding ◌/ℚ◌
/ℚ_back x y h = ring 3 ℚR (λ x y v. y ⊠ (x ⊠ v)) (λ x y v. (y ⊠ v) ⊠ x) refl x y (inverse y)
    ∙ ap (λ z. z *ℚ x) (*-inverse y h) ∙ one-* ℚR x

-- ---- division by a whole number from 1
whole_nonzero : (n : ℕ) → 1 ≤ n → whole (pos n) ≢ whole (pos 0)
whole_nonzero n l e = omega (arith, eq_of (is_nat n) (is_nat 0) (whole_injective (pos n) (pos 0) e))

pub whole_reciprocal : (n : ℕ) → 1 ≤ n → whole (pos n) *ℚ reciprocal n ≡ whole (pos 1)
unfolding reciprocal
whole_reciprocal n l = *-inverse (whole (pos n)) (whole_nonzero n l)

pub ÷-whole : (x : ℚ) (n : ℕ) → x ÷ n ≡ x /ℚ whole (pos n)
unfolding ◌÷◌ reciprocal ◌/ℚ◌
÷-whole x n = refl

pub ÷-back : (x : ℚ) (n : ℕ) → 1 ≤ n → whole (pos n) *ℚ (x ÷ n) ≡ x
÷-back x n l = ap (λ z. whole (pos n) *ℚ z) (÷-whole x n) ∙ /ℚ_back x (whole (pos n)) (whole_nonzero n l)

pub reciprocal_class : (k : ℕ) → reciprocal (suc k) ≡ class (record { numerator = pos 1; denominator_1 = k })
unfolding reciprocal whole over_1 inversion over one_more
reciprocal_class k = inverse_class _

-- a fraction is its numerator divided by its denominator
pub class-÷ : (p : Frac) → class p ≡ whole p.numerator ÷ suc p.denominator_1
unfolding whole over_1 product Same ◌÷◌
class-÷ p = sym (ap (λ z. whole p.numerator *ℚ z) (reciprocal_class p.denominator_1) ∙ product_class _ _
    ∙ class_sound _ _ (simp (one_more_times, one_more_zero) (ring 2 ℤR
    (λ n d. n ⊠ 𝟏 ⊠ d) (λ n d. n ⊠ (𝟏 ⊠ d)) refl p.numerator (denominator p))))
