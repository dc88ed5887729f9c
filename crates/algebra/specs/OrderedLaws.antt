-- Laws of ordered rings: the order by certificates (what is left over is not negative, and an identity says so),
-- the absolute value, enclosures of products, and the numbers in the ring.
use Rattle.std.specs.Prelude.{◌≡◌, ◌⊎◌}
use Rattle.std.proofs.Math.Path.{refl, subst}
use Rattle.std.proofs.Common.{sym, ◌∙◌, ap, arith}
use Rattle.std.proofs.Math.Logic.{inl, inr}
use Prim.Native.Nat.{ℕ, zero, suc}
use Prim.Native.Nat as N
use Rattle.algebra.specs.Ring.{nat, pow}
use Rattle.algebra.specs.RingLaws.{zero-+, nat_zero, nat_suc, nat_add}
use Rattle.algebra.specs.RingSolver.{𝟎, ◌⊞◌, ◌⊟◌, ◌⊠◌, ⊝◌, ring}
use Rattle.algebra.specs.Ordered.{Ordered, abs}

module _ (O : Ordered) where
  open O use {ring as R, ◌≤◌, ≤-refl, ≤_trans, ≤-antisym, ≤-total, ≤-add, ≤-mul}
  open R use {Carrier, 0#, 1#, ◌+◌, ◌*◌, neg, +_comm, +-neg, *-one}

  infixl 60 ◌+◌ ◌-◌
  infixl 70 ◌*◌
  infix 50 ◌≤◌
  infix 90 ∣◌∣
  -- the difference
  abbrev ◌-◌ : Carrier → Carrier → Carrier
  a - b = a + neg b

  -- the absolute value
  abbrev ∣◌∣ : Carrier → Carrier
  ∣ a ∣ = abs O a

  -- ---- certificates
  pub ≤-reflexive : {a b : Carrier} → a ≡ b → a ≤ b
  ≤-reflexive {a} e = subst (λ x. a ≤ x) e (≤-refl a)

  -- b is a and something not negative
  pub le_by : {a b : Carrier} (d : Carrier) → 0# ≤ d → a + d ≡ b → a ≤ b
  le_by {a} d h e = ≤_trans (≤-reflexive (sym (zero-+ R a))) (≤_trans (≤-add a h) (≤-reflexive (+_comm d a ∙ e)))

  pub sub_nonneg : {a b : Carrier} → a ≤ b → 0# ≤ b - a
  sub_nonneg {a} {b} h = subst (λ x. x ≤ b - a) (+-neg a) (≤-add (neg a) h)

  pub add_nonneg : {a b : Carrier} → 0# ≤ a → 0# ≤ b → 0# ≤ a + b
  add_nonneg {a} {b} h k = ≤_trans k (subst (λ x. x ≤ a + b) (zero-+ R b) (≤-add b h))

  -- ---- sums, products and negation keep the order
  pub +-mono : {a b c d : Carrier} → a ≤ b → c ≤ d → a + c ≤ b + d
  +-mono {a} {b} {c} {d} h k = le_by (b - a + (d - c)) (add_nonneg (sub_nonneg h) (sub_nonneg k))
      (ring 4 R (λ a b c d. a ⊞ c ⊞ (b ⊟ a ⊞ (d ⊟ c))) (λ a b c d. b ⊞ d) refl a b c d)

  pub *-mono : {a b c : Carrier} → 0# ≤ c → a ≤ b → a * c ≤ b * c
  *-mono {a} {b} {c} h k = le_by ((b - a) * c) (≤-mul (sub_nonneg k) h)
      (ring 3 R (λ a b c. a ⊠ c ⊞ (b ⊟ a) ⊠ c) (λ a b c. b ⊠ c) refl a b c)

  *-mono₂ : {a b c d : Carrier} → 0# ≤ a → 0# ≤ d → a ≤ b → c ≤ d → a * c ≤ b * d
  *-mono₂ {a} {b} {c} {d} ha hd h k =
      le_by (a * (d - c) + (b - a) * d) (add_nonneg (≤-mul ha (sub_nonneg k)) (≤-mul (sub_nonneg h) hd))
      (ring 4 R (λ a b c d. a ⊠ c ⊞ (a ⊠ (d ⊟ c) ⊞ (b ⊟ a) ⊠ d)) (λ a b c d. b ⊠ d) refl a b c d)

  pub neg_mono : {a b : Carrier} → a ≤ b → neg b ≤ neg a
  neg_mono {a} {b} h = le_by (b - a) (sub_nonneg h) (ring 2 R (λ a b. ⊝ b ⊞ (b ⊟ a)) (λ a b. ⊝ a) refl a b)

  -- ---- the absolute value
  neg_neg : (a : Carrier) → neg (neg a) ≡ a
  neg_neg a = ring 1 R (λ a. ⊝ (⊝ a)) (λ a. a) refl a

  neg_zero : neg 0# ≡ 0#
  neg_zero = ring 0 R (⊝ 𝟎) 𝟎 refl

  pub abs_pos : {a : Carrier} → 0# ≤ a → ∣ a ∣ ≡ a
  unfolding abs
  abs_pos {a} h = go (≤-total 0# a)
    where
      go : (s : 0# ≤ a ⊎ a ≤ 0#) → elim s as (λ s. Carrier) [ inl h ↦ a | inr h ↦ neg a ] ≡ a
      go (inl k) = refl
      go (inr k) = subst (λ x. neg x ≡ x) (≤-antisym h k) neg_zero

  pub abs_neg : {a : Carrier} → a ≤ 0# → ∣ a ∣ ≡ neg a
  unfolding abs
  abs_neg {a} h = go (≤-total 0# a)
    where
      go : (s : 0# ≤ a ⊎ a ≤ 0#) → elim s as (λ s. Carrier) [ inl h ↦ a | inr h ↦ neg a ] ≡ neg a
      go (inl k) = subst (λ x. x ≡ neg x) (≤-antisym k h) (sym neg_zero)
      go (inr k) = refl

  -- by cases on the sign: a property of a and |a| at a and a not negative, and at −a and a
  by_sign : (P : Carrier → Carrier → Type 0) → ((a : Carrier) → 0# ≤ a → P a a)
      → ((a : Carrier) → 0# ≤ a → P (neg a) a) → (a : Carrier) → P a ∣ a ∣
  by_sign P f g a = go (≤-total 0# a)
    where
      go : 0# ≤ a ⊎ a ≤ 0# → P a ∣ a ∣
      go (inl h) = rw (abs_pos h) (f a h)
      go (inr h) = rw (abs_neg h)
          (subst (λ x. P x (neg a)) (neg_neg a) (g (neg a) (subst (λ x. x ≤ neg a) neg_zero (neg_mono h))))

  -- x is a or −a, with a not negative
  pub abs_is : {x a : Carrier} → 0# ≤ a → x ≡ a → ∣ x ∣ ≡ a
  abs_is h e = rw e (abs_pos h)

  pub abs_is⁻ : {x a : Carrier} → 0# ≤ a → x ≡ neg a → ∣ x ∣ ≡ a
  abs_is⁻ {x} {a} h e = rw e (abs_neg (subst (λ x. neg a ≤ x) neg_zero (neg_mono h)) ∙ neg_neg a)

  pub abs_nonneg : (a : Carrier) → 0# ≤ ∣ a ∣
  abs_nonneg = by_sign (λ a b. 0# ≤ b) (λ a h. h) (λ a h. h)

  neg_le : {a : Carrier} → 0# ≤ a → neg a ≤ a
  neg_le {a} h = le_by (a + a) (add_nonneg h h) (ring 1 R (λ a. ⊝ a ⊞ (a ⊞ a)) (λ a. a) refl a)

  pub le_abs : (a : Carrier) → a ≤ ∣ a ∣
  le_abs = by_sign (λ a b. a ≤ b) (λ a h. ≤-refl a) (λ a h. neg_le h)

  pub neg_le_abs : (a : Carrier) → neg a ≤ ∣ a ∣
  neg_le_abs = by_sign (λ a b. neg a ≤ b) (λ a h. neg_le h) (λ a h. ≤-reflexive (neg_neg a))

  pub abs_le : {a e : Carrier} → a ≤ e → neg a ≤ e → ∣ a ∣ ≤ e
  abs_le {a} {e} = by_sign (λ a b. a ≤ e → neg a ≤ e → b ≤ e) (λ a h p q. p)
      (λ a h p q. subst (λ x. x ≤ e) (neg_neg a) q) a

  pub abs_neg_eq : (a : Carrier) → ∣ neg a ∣ ≡ ∣ a ∣
  abs_neg_eq = by_sign (λ a b. ∣ neg a ∣ ≡ b) (λ a h. abs_is⁻ h refl) (λ a h. abs_is h (neg_neg a))

  pub triangle : (a b : Carrier) → ∣ a + b ∣ ≤ ∣ a ∣ + ∣ b ∣
  triangle a b = abs_le (+-mono (le_abs a) (le_abs b))
      (subst (λ x. x ≤ ∣ a ∣ + ∣ b ∣) (ring 2 R (λ a b. ⊝ a ⊟ b) (λ a b. ⊝ (a ⊞ b)) refl a b)
      (+-mono (neg_le_abs a) (neg_le_abs b)))

  pub abs_mul : (a b : Carrier) → ∣ a * b ∣ ≡ ∣ a ∣ * ∣ b ∣
  abs_mul a b = by_sign (λ a a'. ∣ a * b ∣ ≡ a' * ∣ b ∣)
      (λ a h. by_sign (λ b b'. ∣ a * b ∣ ≡ a * b') (λ b k. abs_pos (≤-mul h k))
      (λ b k. abs_is⁻ (≤-mul h k) (ring 2 R (λ a b. a ⊠ ⊝ b) (λ a b. ⊝ (a ⊠ b)) refl a b)) b)
      (λ a h. by_sign (λ b b'. ∣ neg a * b ∣ ≡ a * b')
      (λ b k. abs_is⁻ (≤-mul h k) (ring 2 R (λ a b. ⊝ a ⊠ b) (λ a b. ⊝ (a ⊠ b)) refl a b))
      (λ b k. abs_is (≤-mul h k) (ring 2 R (λ a b. ⊝ a ⊠ ⊝ b) (λ a b. a ⊠ b) refl a b)) b) a

  pub square_nonneg : (a : Carrier) → 0# ≤ a * a
  square_nonneg = by_sign (λ a b. 0# ≤ a * a) (λ a h. ≤-mul h h)
      (λ a h. ≤_trans (≤-mul h h) (≤-reflexive (ring 1 R (λ a. a ⊠ a) (λ a. ⊝ a ⊠ ⊝ a) refl a)))

  pub one_nonneg : 0# ≤ 1#
  one_nonneg = subst (λ x. 0# ≤ x) (*-one 1#) (square_nonneg 1#)

  -- ---- bounds of products and powers
  pub abs_prod : (x y : Carrier) {u v : Carrier} → ∣ x ∣ ≤ u → ∣ y ∣ ≤ v → ∣ x * y ∣ ≤ u * v
  abs_prod x y p q =
      ≤_trans (≤-reflexive (abs_mul x y)) (*-mono₂ (abs_nonneg x) (≤_trans (abs_nonneg y) q) p q)

  pub pow_le : (x : Carrier) {b : Carrier} → ∣ x ∣ ≤ b → (n : ℕ) → ∣ pow R x n ∣ ≤ pow R b n
  unfolding pow
  pow_le x h zero = ≤-reflexive (abs_pos one_nonneg)
  pow_le x h (suc n) = abs_prod x (pow R x n) h (pow_le x h n)

  -- the product of what is near f and what is near g, |f| and |g| being at most A and B
  pub enclose_mul : (F f G g : Carrier) {e k A B : Carrier} → ∣ F - f ∣ ≤ e → ∣ G - g ∣ ≤ k → ∣ f ∣ ≤ A → ∣ g ∣ ≤ B
      → ∣ F * G - f * g ∣ ≤ A * k + B * e + e * k
  enclose_mul F f G g {e} {k} {A} {B} he hk hA hB = subst (λ x. ∣ x ∣ ≤ A * k + B * e + e * k)
      (ring 4 R (λ F f G g. f ⊠ (G ⊟ g) ⊞ g ⊠ (F ⊟ f) ⊞ (F ⊟ f) ⊠ (G ⊟ g)) (λ F f G g. F ⊠ G ⊟ f ⊠ g) refl F f G g)
      (≤_trans (triangle _ _) (+-mono
      (≤_trans (triangle _ _) (+-mono (abs_prod _ _ hA hk) (abs_prod _ _ hB he))) (abs_prod _ _ he hk)))

  -- ---- numbers
  pub nat_nonneg : (n : ℕ) → 0# ≤ nat R n
  nat_nonneg zero = ≤-reflexive (sym (nat_zero R))
  nat_nonneg (suc n) = ≤_trans (add_nonneg one_nonneg (nat_nonneg n)) (≤-reflexive (sym (nat_suc R n)))

  pub nat_mono : (m n : ℕ) → N.◌≤◌ m n → nat R m ≤ nat R n
  nat_mono m n h = le_by (nat R (N.◌-◌ n m)) (nat_nonneg (N.◌-◌ n m))
      (sym (nat_add R m (N.◌-◌ n m)) ∙ ap (nat R) (omega arith))
