-- ℚ as an ordered ring.
use Rattle.std.specs.Prelude.{◌≡◌, refl, Bool, true, false, not, ◌⊎◌, T, pos, ◌*ℤ◌, ◌≤ℤ◌}
use Rattle.std.proofs.Common.{sym, subst, inl, inr, T_not}
use mathlib.Core.HLevel.{Π_prop}
use Rattle.std.proofs.Math.Dec.{T_prop}
use Rattle.std.proofs.Math.IntN.{zero-*ℤ}
use Rattle.std.specs.Int.Signed.{le_z_yes}
use Rattle.algebra.specs.RingSolver.{◌⊞◌, ◌⊟◌, ◌⊠◌, ring}
use Rattle.algebra.specs.Ordered.{Ordered}
use Rattle.algebra.specs.OrderedLaws.{≤-reflexive, le_by, sub_nonneg, *-mono}
use Rattle.algebra.specs.IntegerRing.{ℤR, ℤO}
use Rattle.algebra.specs.Fraction.{Frac, denominator, Same, at_most, over_1, sum, product}
use Rattle.algebra.proofs.FractionLaws.{one_more_zero, one_more_times, one_more_nonneg, one_more_cancel}
use Rattle.algebra.proofs.Rational.{ℚ, class, ℚ_set, class_sound, ◌+ℚ◌, ◌*ℚ◌, leℚ, ◌≤ℚ◌, whole, sum_class}
use Rattle.algebra.proofs.Rational.{product_class, leℚ_class, ℚ_ind, ℚ_ind₂, ℚ_ind₃}
use Rattle.algebra.proofs.RationalRing.{ℚR}

-- ---- two fractions are compared by cross-multiplying
-- n e ≤ m d, for n/d and m/e
abbrev pub Cross≤ : Frac → Frac → Type 0
Cross≤ p q = (p.numerator *ℤ denominator q) ≤ℤ (q.numerator *ℤ denominator p)

pub class_≤ : (p q : Frac) → Cross≤ p q → class p ≤ℚ class q
unfolding at_most
class_≤ p q h = record { le = subst T (sym (leℚ_class p q)) h.le }

pub ≤-class : (p q : Frac) → class p ≤ℚ class q → Cross≤ p q
unfolding at_most
≤-class p q h = le_z_yes (subst T (leℚ_class p q) h.le)

pub ≤ℚ_prop : {x y : ℚ} → IsProp (x ≤ℚ y)
≤ℚ_prop {x} {y} h k = λ i. record { le = T_prop (leℚ x y) h.le k.le i }

-- ---- cross products in any ordered ring
module _ (O : Ordered) where
  open O use {ring as R, ◌≤◌, ≤_trans, ≤-mul}
  open R use {Carrier, 0#, ◌+◌, ◌*◌, neg}

  infixl 60 ◌+◌
  infixl 70 ◌*◌
  infix 50 ◌≤◌
  -- n/d is at most m/e, which is at most k/f
  chain_≤ : (n d m e k f : Carrier) → 0# ≤ d → 0# ≤ f → n * e ≤ m * d → m * f ≤ k * e → n * f * e ≤ k * d * e
  chain_≤ n d m e k f hd hf h g = ≤_trans (turn n f e) (≤_trans (*-mono O hf h)
      (≤_trans (turn m d f) (≤_trans (*-mono O hd g) (turn k e d))))
    where
      turn : (a b c : Carrier) → a * b * c ≤ a * c * b
      turn a b c = ≤-reflexive O (ring 3 R (λ a b c. a ⊠ b ⊠ c) (λ a b c. a ⊠ c ⊠ b) refl a b c)

  -- n/d is at most m/e: so with k/f added to both
  added_≤ : (n d m e k f : Carrier) → 0# ≤ f → n * e ≤ m * d
      → (n * f + k * d) * (e * f) ≤ (m * f + k * e) * (d * f)
  added_≤ n d m e k f hf h = le_by O ((m * d + neg (n * e)) * (f * f)) (≤-mul (sub_nonneg O h) (≤-mul hf hf))
      (ring 6 R (λ n d m e k f. (n ⊠ f ⊞ k ⊠ d) ⊠ (e ⊠ f) ⊞ (m ⊠ d ⊟ n ⊠ e) ⊠ (f ⊠ f))
      (λ n d m e k f. (m ⊠ f ⊞ k ⊠ e) ⊠ (d ⊠ f)) refl n d m e k f)

-- ---- of fractions
cross_refl : (p : Frac) → Cross≤ p p
cross_refl p = ℤO.≤-refl _

cross_trans : (p q r : Frac) → Cross≤ p q → Cross≤ q r → Cross≤ p r
cross_trans p q r h k =
    one_more_cancel (p.numerator *ℤ denominator r) (r.numerator *ℤ denominator p) q.denominator_1
    (chain_≤ ℤO p.numerator (denominator p) q.numerator (denominator q) r.numerator (denominator r)
    (one_more_nonneg p.denominator_1) (one_more_nonneg r.denominator_1) h k)

cross_total : (p q : Frac) → Cross≤ p q ⊎ Cross≤ q p
cross_total p q = ℤO.≤-total _ _

cross_antisym : (p q : Frac) → Cross≤ p q → Cross≤ q p → Same p q
unfolding Same
cross_antisym p q h k = ℤO.≤-antisym h k

cross_add : (p q r : Frac) → Cross≤ p q → Cross≤ (sum p r) (sum q r)
unfolding sum
cross_add p q r h = simp one_more_times (added_≤ ℤO p.numerator (denominator p) q.numerator (denominator q)
    r.numerator (denominator r) (one_more_nonneg r.denominator_1) h)

-- not negative: so is the numerator
cross_nonneg : (p : Frac) → Cross≤ (over_1 (pos 0)) p → pos 0 ≤ℤ p.numerator
unfolding over_1
cross_nonneg p h = simp (one_more_zero, ℤR.*-one, zero-*ℤ) at h

nonneg_cross : (p : Frac) → pos 0 ≤ℤ p.numerator → Cross≤ (over_1 (pos 0)) p
unfolding over_1
nonneg_cross p h = simp (one_more_zero, ℤR.*-one, zero-*ℤ) h

cross_mul : (p q : Frac) → Cross≤ (over_1 (pos 0)) p → Cross≤ (over_1 (pos 0)) q
    → Cross≤ (over_1 (pos 0)) (product p q)
unfolding product
cross_mul p q h k = nonneg_cross (product p q) (ℤO.≤-mul (cross_nonneg p h) (cross_nonneg q k))

-- ---- on ℚ
pub ≤ℚ_refl : (x : ℚ) → x ≤ℚ x
≤ℚ_refl = ℚ_ind (λ x. ≤ℚ_prop) (λ p. class_≤ p p (cross_refl p))

pub ≤ℚ_trans : {x y z : ℚ} → x ≤ℚ y → y ≤ℚ z → x ≤ℚ z
≤ℚ_trans {x} {y} {z} = ℚ_ind₃ {P = λ x y z. x ≤ℚ y → y ≤ℚ z → x ≤ℚ z} (λ x y z. Π_prop (λ h. Π_prop (λ k. ≤ℚ_prop)))
    (λ p q r h k. class_≤ p r (cross_trans p q r (≤-class p q h) (≤-class q r k))) x y z

pub ≤ℚ_antisym : {x y : ℚ} → x ≤ℚ y → y ≤ℚ x → x ≡ y
≤ℚ_antisym {x} {y} = ℚ_ind₂ {P = λ x y. x ≤ℚ y → y ≤ℚ x → x ≡ y} (λ x y. Π_prop (λ h. Π_prop (λ k. ℚ_set x y)))
    (λ p q h k. class_sound p q (cross_antisym p q (≤-class p q h) (≤-class q p k))) x y

-- what the comparison denies holds the other way round
not_≤ : (x y : ℚ) → T (not (leℚ x y)) → y ≤ℚ x
not_≤ = ℚ_ind₂ (λ x y. Π_prop (λ t. ≤ℚ_prop)) (λ p q t. go p q t (cross_total p q))
  where
    go : (p q : Frac) → T (not (leℚ (class p) (class q))) → Cross≤ p q ⊎ Cross≤ q p → class q ≤ℚ class p
    go p q t (inl k) = absurd (T_not (leℚ (class p) (class q)) t (class_≤ p q k).le)
    go p q t (inr k) = class_≤ q p k

pub ≤ℚ_total : (x y : ℚ) → x ≤ℚ y ⊎ y ≤ℚ x
≤ℚ_total x y = go (leℚ x y) (λ t. record { le = t }) (not_≤ x y)
  where
    go : (b : Bool) → (T b → x ≤ℚ y) → (T (not b) → y ≤ℚ x) → x ≤ℚ y ⊎ y ≤ℚ x
    go true f g = inl (f tt)
    go false f g = inr (g tt)

pub ≤ℚ_add : {x y : ℚ} (z : ℚ) → x ≤ℚ y → x +ℚ z ≤ℚ y +ℚ z
≤ℚ_add {x} {y} z = ℚ_ind₃ {P = λ x y z. x ≤ℚ y → x +ℚ z ≤ℚ y +ℚ z} (λ x y z. Π_prop (λ h. ≤ℚ_prop))
    (λ p q r h. simp sum_class (class_≤ (sum p r) (sum q r) (cross_add p q r (≤-class p q h)))) x y z

pub ≤ℚ_mul : {x y : ℚ} → whole (pos 0) ≤ℚ x → whole (pos 0) ≤ℚ y → whole (pos 0) ≤ℚ x *ℚ y
unfolding whole
≤ℚ_mul {x} {y} = ℚ_ind₂ {P = λ x y. whole (pos 0) ≤ℚ x → whole (pos 0) ≤ℚ y → whole (pos 0) ≤ℚ x *ℚ y}
    (λ x y. Π_prop (λ h. Π_prop (λ k. ≤ℚ_prop)))
    (λ p q h k. simp product_class (class_≤ _ _ (cross_mul p q (≤-class _ p h) (≤-class _ q k)))) x y

-- ℚ as an ordered ring
abbrev pub ℚO : Ordered
ℚO = record {
  ring = ℚR;
  ◌≤◌ = ◌≤ℚ◌;
  ≤-refl = ≤ℚ_refl;
  ≤_trans = ≤ℚ_trans;
  ≤-antisym = ≤ℚ_antisym;
  ≤-total = ≤ℚ_total;
  ≤-add = ≤ℚ_add;
  ≤-mul = ≤ℚ_mul;
}
