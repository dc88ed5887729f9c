-- ℚ as a ring: each law is an identity of cross products.
use Rattle.std.specs.Prelude.{◌≡◌, refl, pos}
use Rattle.algebra.specs.Ring.{Ring}
use Rattle.algebra.specs.RingSolver.{𝟎, 𝟏, ◌⊞◌, ◌⊠◌, ⊝◌, ring}
use Rattle.algebra.specs.IntegerRing.{ℤR}
use Rattle.algebra.specs.Fraction.{Frac, denominator, Same, over_1, sum, product, negation}
use Rattle.algebra.proofs.FractionLaws.{one_more_zero, one_more_times}
use Rattle.algebra.proofs.Rational.{ℚ, ℚ_set, class_sound, ◌+ℚ◌, ◌*ℚ◌, negℚ, whole, sum_class, product_class}
use Rattle.algebra.proofs.Rational.{negation_class, ℚ_ind, ℚ_ind₂, ℚ_ind₃}

-- ---- of fractions
sum_assoc : (p q r : Frac) → Same (sum (sum p q) r) (sum p (sum q r))
unfolding Same sum
sum_assoc p q r = simp one_more_times (ring 6 ℤR
    (λ n d m e k f. ((n ⊠ e ⊞ m ⊠ d) ⊠ f ⊞ k ⊠ (d ⊠ e)) ⊠ (d ⊠ (e ⊠ f)))
    (λ n d m e k f. (n ⊠ (e ⊠ f) ⊞ (m ⊠ f ⊞ k ⊠ e) ⊠ d) ⊠ (d ⊠ e ⊠ f)) refl
    p.numerator (denominator p) q.numerator (denominator q) r.numerator (denominator r))

sum_comm : (p q : Frac) → Same (sum p q) (sum q p)
unfolding Same sum
sum_comm p q = simp one_more_times (ring 4 ℤR
    (λ n d m e. (n ⊠ e ⊞ m ⊠ d) ⊠ (e ⊠ d)) (λ n d m e. (m ⊠ d ⊞ n ⊠ e) ⊠ (d ⊠ e)) refl
    p.numerator (denominator p) q.numerator (denominator q))

sum_zero : (p : Frac) → Same (sum p (over_1 (pos 0))) p
unfolding Same sum over_1
sum_zero p = simp (one_more_times, one_more_zero) (ring 2 ℤR
    (λ n d. (n ⊠ 𝟏 ⊞ 𝟎 ⊠ d) ⊠ d) (λ n d. n ⊠ (d ⊠ 𝟏)) refl p.numerator (denominator p))

sum_negation : (p : Frac) → Same (sum p (negation p)) (over_1 (pos 0))
unfolding Same sum negation over_1
sum_negation p = simp (one_more_times, one_more_zero) (ring 2 ℤR
    (λ n d. (n ⊠ d ⊞ ⊝ n ⊠ d) ⊠ 𝟏) (λ n d. 𝟎 ⊠ (d ⊠ d)) refl p.numerator (denominator p))

product_assoc : (p q r : Frac) → Same (product (product p q) r) (product p (product q r))
unfolding Same product
product_assoc p q r = simp one_more_times (ring 6 ℤR
    (λ n d m e k f. n ⊠ m ⊠ k ⊠ (d ⊠ (e ⊠ f))) (λ n d m e k f. n ⊠ (m ⊠ k) ⊠ (d ⊠ e ⊠ f)) refl
    p.numerator (denominator p) q.numerator (denominator q) r.numerator (denominator r))

product_comm : (p q : Frac) → Same (product p q) (product q p)
unfolding Same product
product_comm p q = simp one_more_times (ring 4 ℤR
    (λ n d m e. n ⊠ m ⊠ (e ⊠ d)) (λ n d m e. m ⊠ n ⊠ (d ⊠ e)) refl
    p.numerator (denominator p) q.numerator (denominator q))

product_one : (p : Frac) → Same (product p (over_1 (pos 1))) p
unfolding Same product over_1
product_one p = simp (one_more_times, one_more_zero) (ring 2 ℤR
    (λ n d. (n ⊠ 𝟏) ⊠ d) (λ n d. n ⊠ (d ⊠ 𝟏)) refl p.numerator (denominator p))

product_dist : (p q r : Frac) → Same (product (sum p q) r) (sum (product p r) (product q r))
unfolding Same sum product
product_dist p q r = simp one_more_times (ring 6 ℤR
    (λ n d m e k f. (n ⊠ e ⊞ m ⊠ d) ⊠ k ⊠ (d ⊠ f ⊠ (e ⊠ f)))
    (λ n d m e k f. (n ⊠ k ⊠ (e ⊠ f) ⊞ m ⊠ k ⊠ (d ⊠ f)) ⊠ (d ⊠ e ⊠ f)) refl
    p.numerator (denominator p) q.numerator (denominator q) r.numerator (denominator r))

-- ---- on ℚ
pub +ℚ_assoc : (x y z : ℚ) → (x +ℚ y) +ℚ z ≡ x +ℚ (y +ℚ z)
+ℚ_assoc = ℚ_ind₃ (λ x y z. ℚ_set _ _) (λ p q r. simp sum_class (class_sound _ _ (sum_assoc p q r)))

pub +ℚ_comm : (x y : ℚ) → x +ℚ y ≡ y +ℚ x
+ℚ_comm = ℚ_ind₂ (λ x y. ℚ_set _ _) (λ p q. simp sum_class (class_sound _ _ (sum_comm p q)))

pub +ℚ_zero : (x : ℚ) → x +ℚ whole (pos 0) ≡ x
unfolding whole
+ℚ_zero = ℚ_ind (λ x. ℚ_set _ _) (λ p. simp sum_class (class_sound _ _ (sum_zero p)))

pub +ℚ_neg : (x : ℚ) → x +ℚ negℚ x ≡ whole (pos 0)
unfolding whole
+ℚ_neg = ℚ_ind (λ x. ℚ_set _ _) (λ p. simp (negation_class, sum_class) (class_sound _ _ (sum_negation p)))

pub *ℚ_assoc : (x y z : ℚ) → (x *ℚ y) *ℚ z ≡ x *ℚ (y *ℚ z)
*ℚ_assoc = ℚ_ind₃ (λ x y z. ℚ_set _ _) (λ p q r. simp product_class (class_sound _ _ (product_assoc p q r)))

pub *ℚ_comm : (x y : ℚ) → x *ℚ y ≡ y *ℚ x
*ℚ_comm = ℚ_ind₂ (λ x y. ℚ_set _ _) (λ p q. simp product_class (class_sound _ _ (product_comm p q)))

pub *ℚ_one : (x : ℚ) → x *ℚ whole (pos 1) ≡ x
unfolding whole
*ℚ_one = ℚ_ind (λ x. ℚ_set _ _) (λ p. simp product_class (class_sound _ _ (product_one p)))

pub ℚ_dist : (x y z : ℚ) → (x +ℚ y) *ℚ z ≡ x *ℚ z +ℚ y *ℚ z
ℚ_dist = ℚ_ind₃ (λ x y z. ℚ_set _ _) (λ p q r. simp (sum_class, product_class) (class_sound _ _ (product_dist p q r)))

-- ℚ as a ring
abbrev pub ℚR : Ring
ℚR = record {
  Carrier = ℚ;
  0# = whole (pos 0);
  1# = whole (pos 1);
  ◌+◌ = ◌+ℚ◌;
  ◌*◌ = ◌*ℚ◌;
  neg = negℚ;
  +_assoc = +ℚ_assoc;
  +_comm = +ℚ_comm;
  +-zero = +ℚ_zero;
  +-neg = +ℚ_neg;
  *-assoc = *ℚ_assoc;
  *-comm = *ℚ_comm;
  *-one = *ℚ_one;
  dist = ℚ_dist;
}
