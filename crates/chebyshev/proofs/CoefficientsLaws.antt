-- What the operations on rows do to the value, and bounds for it.
use Rattle.std.specs.Prelude.{◌≡◌, ℤ, neg_ℤ, ◌-ℤ◌, ◌*ℤ◌, nat_abs, replicate, take, drop}
use Rattle.std.proofs.Math.Path.{refl, sym, ap, ap₂, subst}
use Rattle.std.proofs.Common.{◌∙◌, arith}
use mathlib.Core.List.{[], ◌∷◌, map}
use Prim.Native.Nat.{ℕ, zero, suc}
use Prim.Native.Nat as N
use Rattle.std.proofs.Math.IntN.{pos}
use Rattle.algebra.specs.Ring.{Ring, nat, pow}
use Rattle.chebyshev.specs.RingIntegers.{int}
use Rattle.chebyshev.specs.RingIntegersLaws.{int_pos, int-+, int-*, int_neg, int_abs}
use Rattle.algebra.specs.RingLaws.{zero-+, *-zero, nat_zero, nat_add}
use Rattle.algebra.specs.RingSolver.{𝟎, ◌⊞◌, ◌⊟◌, ◌⊠◌, ⊝◌, ring}
use Rattle.algebra.specs.Ordered.{Ordered, abs}
use Rattle.algebra.specs.OrderedLaws.{≤-reflexive, triangle, +-mono, abs_pos, abs_prod}
use Rattle.chebyshev.specs.Recurrence.{apart, chebyshev}
use Rattle.chebyshev.specs.RecurrenceLaws.{chebyshev_product}
use Rattle.chebyshev.specs.Coefficients.{Row, sum, scale, size, add_at, products_of, products_from, value}

module _ (R : Ring) where
  open R use {Carrier, 0#, 1#, ◌+◌, ◌*◌, neg, +_assoc, +-zero, *-one}

  infixl 60 ◌+◌
  infixl 70 ◌*◌
  int_zero : int R (pos 0) ≡ 0#
  int_zero = int_pos R 0 ∙ nat_zero R

  module _ (w : ℕ → Carrier) where
    pub value_nil : (k : ℕ) → value R w k [] ≡ 0#
    unfolding value
    value_nil k = refl

    pub value_cons : (k : ℕ) (a : ℤ) (p : Row) → value R w k (a ∷ p) ≡ int R a * w k + value R w (suc k) p
    unfolding value
    value_cons k a p = refl

    pub value_sum : (k : ℕ) (p q : Row) → value R w k (sum p q) ≡ value R w k p + value R w k q
    unfolding sum value
    value_sum k [] q = sym (zero-+ R _)
    value_sum k (a ∷ p) [] = sym (+-zero _)
    value_sum k (a ∷ p) (b ∷ q) = ap₂ (λ c v. c * w k + v) (int-+ R a b) (value_sum (suc k) p q)
        ∙ ring 5 R (λ a b w p q. (a ⊞ b) ⊠ w ⊞ (p ⊞ q)) (λ a b w p q. a ⊠ w ⊞ p ⊞ (b ⊠ w ⊞ q)) refl _ _ _ _ _

    pub value_scale : (k : ℕ) (c : ℤ) (p : Row) → value R w k (scale c p) ≡ int R c * value R w k p
    unfolding scale value
    value_scale k c [] = sym (*-zero R _)
    value_scale k c (a ∷ p) = ap₂ (λ c v. c * w k + v) (int-* R c a) (value_scale (suc k) c p)
        ∙ ring 4 R (λ c a w p. c ⊠ a ⊠ w ⊞ c ⊠ p) (λ c a w p. c ⊠ (a ⊠ w ⊞ p)) refl _ _ _ _

    pub value_negated : (k : ℕ) (p : Row) → value R w k (map neg_ℤ p) ≡ neg (value R w k p)
    unfolding value
    value_negated k [] = ring 0 R 𝟎 (⊝ 𝟎) refl
    value_negated k (a ∷ p) = ap₂ (λ c v. c * w k + v) (int_neg R a) (value_negated (suc k) p)
        ∙ ring 3 R (λ a w p. ⊝ a ⊠ w ⊟ p) (λ a w p. ⊝ (a ⊠ w ⊞ p)) refl _ _ _

    pub value_zeros : (k n : ℕ) → value R w k (replicate n (pos 0)) ≡ 0#
    unfolding value
    value_zeros k zero = refl
    value_zeros k (suc n) = ap₂ (λ c v. c * w k + v) int_zero (value_zeros (suc k) n)
        ∙ ring 1 R (λ w. 𝟎 ⊠ w ⊞ 𝟎) (λ w. 𝟎) refl (w k)

    pub value_add_at : (k i : ℕ) (z : ℤ) (p : Row)
        → value R w k (add_at i z p) ≡ int R z * w (N.◌+◌ k i) + value R w k p
    unfolding add_at value
    value_add_at k zero z [] = ap (λ j. int R z * w j + 0#) (omega arith)
    value_add_at k zero z (a ∷ p) = ap (λ c. c * w k + value R w (suc k) p) (int-+ R z a)
        ∙ ring 4 R (λ z a w p. (z ⊞ a) ⊠ w ⊞ p) (λ z a w p. z ⊠ w ⊞ (a ⊠ w ⊞ p)) refl _ _ _ _
        ∙ ap (λ j. int R z * w j + (int R a * w k + value R w (suc k) p)) (omega arith)
    value_add_at k (suc i) z [] = ap₂ (λ c v. c * w k + v) int_zero (value_add_at (suc k) i z [])
        ∙ ap (λ j. 0# * w k + (int R z * w j + 0#)) (omega arith)
        ∙ ring 3 R (λ z w v. 𝟎 ⊠ w ⊞ (z ⊠ v ⊞ 𝟎)) (λ z w v. z ⊠ v ⊞ 𝟎) refl _ _ _
    value_add_at k (suc i) z (a ∷ p) = ap (λ v. int R a * w k + v) (value_add_at (suc k) i z p)
        ∙ ap (λ j. int R a * w k + (int R z * w j + value R w (suc k) p)) (omega arith)
        ∙ ring 4 R (λ a w z p. a ⊠ w ⊞ (z ⊞ p)) (λ a w z p. z ⊞ (a ⊠ w ⊞ p)) refl _ _ _ _

    -- in a whole row
    pub value_added : (i : ℕ) (z : ℤ) (p : Row) → value R w 0 (add_at i z p) ≡ int R z * w i + value R w 0 p
    value_added i z p = value_add_at 0 i z p ∙ ap (λ j. int R z * w j + value R w 0 p) (omega arith)

    -- the first n, and the others
    pub value_split : (k n : ℕ) (p : Row)
        → value R w k p ≡ value R w k (take n p) + value R w (N.◌+◌ k n) (drop n p)
    unfolding value
    value_split k zero p = ap (λ j. value R w j p) (omega arith) ∙ sym (zero-+ R _)
    value_split k (suc n) [] = sym (+-zero 0#)
    value_split k (suc n) (a ∷ p) = ap (λ v. int R a * w k + v) (value_split (suc k) n p)
        ∙ ap (λ j. int R a * w k + (value R w (suc k) (take n p) + value R w j (drop n p))) (omega arith)
        ∙ sym (+_assoc _ _ _)

  -- one degree up in powers is times x
  pub value_shifted : (x : Carrier) (k : ℕ) (p : Row)
      → value R (pow R x) (suc k) p ≡ x * value R (pow R x) k p
  unfolding value pow
  value_shifted x k [] = sym (*-zero R x)
  value_shifted x k (a ∷ p) = ap (λ v. int R a * (x * pow R x k) + v) (value_shifted x (suc k) p)
      ∙ ring 4 R (λ a x w p. a ⊠ (x ⊠ w) ⊞ x ⊠ p) (λ a x w p. x ⊠ (a ⊠ w ⊞ p)) refl _ _ _ _

  -- ---- products by Chebyshev's rule
  module _ (x : Carrier) where
    -- the value in Chebyshev polynomials, degrees from k on
    abbrev series : ℕ → Row → Carrier
    series = value R (chebyshev R x)

    value_products_of : (i : ℕ) (a : ℤ) (j : ℕ) (g z : Row)
        → series 0 (products_of i a j g z)
        ≡ int R a * chebyshev R x i * series j g + int R a * chebyshev R x i * series j g + series 0 z
    unfolding products_of value
    value_products_of i a j [] z =
        ring 2 R (λ a z. z) (λ a z. a ⊠ 𝟎 ⊞ a ⊠ 𝟎 ⊞ z) refl (int R a * chebyshev R x i) (series 0 z)
    value_products_of i a j (b ∷ g) z =
        value_added (chebyshev R x) (N.◌+◌ i j) (a *ℤ b) _
        ∙ ap (λ v. ab * chebyshev R x (N.◌+◌ i j) + v) (value_added (chebyshev R x) (apart i j) (a *ℤ b) _)
        ∙ ring 4 R (λ c t u v. c ⊠ t ⊞ (c ⊠ u ⊞ v)) (λ c t u v. c ⊠ (t ⊞ u) ⊞ v) refl ab _ _ _
        ∙ ap₂ (λ c t. c * t + series 0 (products_of i a (suc j) g z)) (int-* R a b) (sym (chebyshev_product R x i j))
        ∙ ap (λ v. int R a * int R b * (t * u + t * u) + v) (value_products_of i a (suc j) g z)
        ∙ ring 6 R (λ a b t u g z. a ⊠ b ⊠ (t ⊠ u ⊞ t ⊠ u) ⊞ (a ⊠ t ⊠ g ⊞ a ⊠ t ⊠ g ⊞ z))
        (λ a b t u g z. a ⊠ t ⊠ (b ⊠ u ⊞ g) ⊞ a ⊠ t ⊠ (b ⊠ u ⊞ g) ⊞ z) refl
        (int R a) (int R b) t u (series (suc j) g) (series 0 z)
      where
        ab : Carrier
        ab = int R (a *ℤ b)

        t : Carrier
        t = chebyshev R x i

        u : Carrier
        u = chebyshev R x j

    -- the value of the collected products is twice the product of the values
    pub value_products : (i : ℕ) (f g z : Row)
        → series 0 (products_from i f g z) ≡ series i f * series 0 g + series i f * series 0 g + series 0 z
    unfolding products_from
    value_products i [] g z = unfold value in
        ring 2 R (λ g z. z) (λ g z. 𝟎 ⊠ g ⊞ 𝟎 ⊠ g ⊞ z) refl (series 0 g) (series 0 z)
    value_products i (a ∷ f) g z = value_products_of i a 0 g _
        ∙ ap (λ v. at * series 0 g + at * series 0 g + v) (value_products (suc i) f g z)
        ∙ ring 4 R (λ a f g z. a ⊠ g ⊞ a ⊠ g ⊞ (f ⊠ g ⊞ f ⊠ g ⊞ z)) (λ a f g z. (a ⊞ f) ⊠ g ⊞ (a ⊞ f) ⊠ g ⊞ z) refl
        at (series (suc i) f) (series 0 g) (series 0 z)
        ∙ ap (λ v. v * series 0 g + v * series 0 g + series 0 z) (sym (value_cons (chebyshev R x) i a f))
      where
        at : Carrier
        at = int R a * chebyshev R x i

-- ---- bounds, where no w_k exceeds 1
module _ (O : Ordered) (w : ℕ → O.ring.Carrier) (bound : (k : ℕ) → O.◌≤◌ (abs O (w k)) O.ring.1#) where
  open O use {ring as R, ◌≤◌, ≤_trans, ≤-refl}
  open R use {Carrier, 0#, 1#, ◌+◌, ◌*◌, neg, *-one}

  infixl 60 ◌+◌
  infixl 70 ◌*◌
  infix 50 ◌≤◌
  -- one coefficient's share
  at_≤ : (k : ℕ) (a : ℤ) → abs O (int R a * w k) ≤ nat R (nat_abs a)
  at_≤ k a = ≤_trans (abs_prod O _ _ (≤-reflexive O (int_abs O a)) (bound k)) (≤-reflexive O (*-one _))

  nothing_≤ : abs O 0# ≤ nat R 0
  nothing_≤ = ≤-reflexive O (abs_pos O (≤-refl 0#) ∙ sym (nat_zero R))

  -- two shares
  both_≤ : (a b : Carrier) (m n : ℕ) → abs O a ≤ nat R m → abs O b ≤ nat R n → abs O (a + b) ≤ nat R (N.◌+◌ m n)
  both_≤ a b m n h k =
      ≤_trans (triangle O a b) (≤_trans (+-mono O h k) (≤-reflexive O (sym (nat_add R m n))))

  -- the value is at most the sum of all |c|
  pub value_≤ : (k : ℕ) (p : Row) → abs O (value R w k p) ≤ nat R (size p)
  unfolding value size
  value_≤ k [] = nothing_≤
  value_≤ k (a ∷ p) = both_≤ _ _ _ _ (at_≤ k a) (value_≤ (suc k) p)

  -- coefficients put through r, which stands for division by d: the value changes by what is left, in all
  pub value_rounded : (r : ℤ → ℤ) (d : ℕ) (k : ℕ) (p : Row)
      → abs O (value R w k p + neg (nat R d * value R w k (map r p)))
      ≤ nat R (size (map (λ z. z -ℤ r z *ℤ pos d) p))
  unfolding value size
  value_rounded r d k [] = subst (λ v. abs O v ≤ nat R 0) (ring 1 R (λ d. 𝟎) (λ d. 𝟎 ⊟ d ⊠ 𝟎) refl (nat R d)) nothing_≤
  value_rounded r d k (a ∷ p) = subst
      (λ v. abs O v ≤ nat R (N.◌+◌ (nat_abs (a -ℤ r a *ℤ pos d)) (size (map (λ z. z -ℤ r z *ℤ pos d) p)))) apart
      (both_≤ _ _ _ _ (at_≤ k (a -ℤ r a *ℤ pos d)) (value_rounded r d (suc k) p))
    where
      v : Carrier
      v = value R w (suc k) p

      u : Carrier
      u = value R w (suc k) (map r p)

      left : int R (a -ℤ r a *ℤ pos d) ≡ int R a + neg (int R (r a) * nat R d)
      left = int-+ R a _ ∙ ap (λ z. int R a + z)
          (int_neg R (r a *ℤ pos d) ∙ ap neg (int-* R (r a) (pos d) ∙ ap (λ z. int R (r a) * z) (int_pos R d)))

      apart : int R (a -ℤ r a *ℤ pos d) * w k + (v + neg (nat R d * u))
          ≡ int R a * w k + v + neg (nat R d * (int R (r a) * w k + u))
      apart = ap (λ z. z * w k + (v + neg (nat R d * u))) left
          ∙ ring 6 R (λ a b d w v u. (a ⊟ b ⊠ d) ⊠ w ⊞ (v ⊟ d ⊠ u)) (λ a b d w v u. a ⊠ w ⊞ v ⊟ d ⊠ (b ⊠ w ⊞ u)) refl
          (int R a) (int R (r a)) (nat R d) (w k) v u
