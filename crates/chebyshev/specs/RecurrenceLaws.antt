-- Products of Chebyshev polynomials, and that none exceeds 1 from -1 to 1.
use Rattle.std.specs.Prelude.{◌≡◌, ◌⊎◌, ℕ, zero, suc}
use Rattle.std.proofs.Math.Path.{refl, ap}
use Rattle.std.proofs.Common.{sym, ◌∙◌, ap₂, inl, inr, arith}
use Prim.Native.Nat as N
use Rattle.std.proofs.Math.Decide.{dec_le}
use Rattle.algebra.specs.Ring.{Ring}
use Rattle.algebra.specs.RingSolver.{𝟎, 𝟏, ◌⊞◌, ◌⊟◌, ◌⊠◌, ring}
use Rattle.algebra.specs.Ordered.{Ordered, abs}
use Rattle.algebra.specs.OrderedLaws.{≤-reflexive, le_by, sub_nonneg, abs_nonneg, abs_mul, abs_pos, abs_prod}
use Rattle.algebra.specs.OrderedLaws.{square_nonneg, *-mono, le_abs}
use Rattle.chebyshev.specs.Recurrence.{apart, chebyshev}

module _ (R : Ring) where
  open R use {Carrier, 0#, ◌+◌, ◌*◌}

  infixl 60 ◌+◌
  infixl 70 ◌*◌
  -- S_k, those of the second kind one place up: S_0 is 0, and S_(k+1) is T_k + x S_k
  unfoldable pub second : Carrier → ℕ → Carrier
  second x zero = 0#
  second x (suc k) = chebyshev R x k + x * second x k

module _ (R : Ring) (x : R.Carrier) where
  open R use {Carrier, 0#, 1#, ◌+◌, ◌*◌, neg, *-comm, *-one}

  infixl 60 ◌+◌
  infixl 70 ◌*◌
  -- T_k at this x
  abbrev T : ℕ → Carrier
  T = chebyshev R x

  -- S_k at this x
  abbrev S : ℕ → Carrier
  S = second R x

  -- ---- the recurrence
  pub chebyshev_zero : T 0 ≡ 1#
  unfolding chebyshev
  chebyshev_zero = refl

  pub chebyshev_one : T 1 ≡ x
  unfolding chebyshev
  chebyshev_one = refl

  pub chebyshev_next : (k : ℕ) → T (suc (suc k)) ≡ x * T (suc k) + x * T (suc k) + neg (T k)
  unfolding chebyshev
  chebyshev_next k = refl

  second_zero : S 0 ≡ 0#
  unfolding second
  second_zero = refl

  second_next : (k : ℕ) → S (suc k) ≡ T k + x * S k
  unfolding second
  second_next k = refl

  -- ---- products
  -- T_n times T_m, m being n + d and s being n + m
  product_up : (n d m s : ℕ) → m ≡ N.◌+◌ n d → s ≡ N.◌+◌ n m → T n * T m + T n * T m ≡ T s + T d
  product_up zero d m s e g = ap₂ (λ t u. t * u + t * u) chebyshev_zero (ap T (omega arith))
      ∙ ring 1 R (λ a. 𝟏 ⊠ a ⊞ 𝟏 ⊠ a) (λ a. a ⊞ a) refl (T d)
      ∙ ap (λ k. T k + T d) (let h : d ≡ s = omega arith in h)
  product_up (suc zero) d m s e g = ap₂ (λ t u. t * u + t * u) chebyshev_one (ap T (omega arith))
      ∙ ring 3 R (λ x a b. x ⊠ a ⊞ x ⊠ a) (λ x a b. x ⊠ a ⊞ x ⊠ a ⊟ b ⊞ b) refl x (T (suc d)) (T d)
      ∙ ap (λ z. z + T d) (sym (chebyshev_next d) ∙ ap T (omega arith))
  product_up (suc (suc n)) d m s e g = ap (λ t. t * T m + t * T m) (chebyshev_next n)
      ∙ ring 4 R (λ x a b m. (x ⊠ a ⊞ x ⊠ a ⊟ b) ⊠ m ⊞ (x ⊠ a ⊞ x ⊠ a ⊟ b) ⊠ m)
      (λ x a b m. x ⊠ (a ⊠ m ⊞ a ⊠ m) ⊞ x ⊠ (a ⊠ m ⊞ a ⊠ m) ⊟ (b ⊠ m ⊞ b ⊠ m)) refl x (T (suc n)) (T n) (T m)
      ∙ ap₂ (λ p q. x * p + x * p + neg q)
      (product_up (suc n) (suc d) m (suc (N.◌+◌ n m)) (omega arith) (omega arith))
      (product_up n (suc (suc d)) m (N.◌+◌ n m) (omega arith) refl)
      ∙ ap (λ z. x * (t + T (suc d)) + x * (t + T (suc d)) + neg (T (N.◌+◌ n m) + z)) (chebyshev_next d)
      ∙ ring 5 R (λ x a b c d. x ⊠ (a ⊞ c) ⊞ x ⊠ (a ⊞ c) ⊟ (b ⊞ (x ⊠ c ⊞ x ⊠ c ⊟ d)))
      (λ x a b c d. x ⊠ a ⊞ x ⊠ a ⊟ b ⊞ d) refl x (T (suc (N.◌+◌ n m))) (T (N.◌+◌ n m)) (T (suc d)) (T d)
      ∙ ap (λ z. z + T d) (sym (chebyshev_next (N.◌+◌ n m)) ∙ ap T (omega arith))
    where
      t : Carrier
      t = T (suc (N.◌+◌ n m))

  -- twice the product of T_i and T_j is T_(i+j) + T_|i-j|
  pub chebyshev_product : (i j : ℕ) → T i * T j + T i * T j ≡ T (N.◌+◌ i j) + T (apart i j)
  unfolding apart
  chebyshev_product i j = go (dec_le i j)
    where
      go : Dec (N.◌≤◌ i j) → T i * T j + T i * T j ≡ T (N.◌+◌ i j) + T (N.◌+◌ (N.◌-◌ i j) (N.◌-◌ j i))
      go (yes h) = product_up i (N.◌+◌ (N.◌-◌ i j) (N.◌-◌ j i)) j (N.◌+◌ i j) (omega arith) refl
      go (no h) = ap (λ z. z + z) (*-comm (T i) (T j))
          ∙ product_up j (N.◌+◌ (N.◌-◌ i j) (N.◌-◌ j i)) i (N.◌+◌ i j) (omega arith) (omega arith)

  -- ---- the sum of squares
  -- T_(k+1) is x T_k - (1 - x²) S_k
  step : (k : ℕ) → T (suc k) ≡ x * T k + neg ((1# + neg (x * x)) * S k)
  step zero = chebyshev_one
      ∙ ring 1 R (λ x. x) (λ x. x ⊠ 𝟏 ⊟ (𝟏 ⊟ x ⊠ x) ⊠ 𝟎) refl x
      ∙ sym (ap₂ (λ t s. x * t + neg ((1# + neg (x * x)) * s)) chebyshev_zero second_zero)
  step (suc k) = chebyshev_next k
      ∙ ap (λ t. x * T (suc k) + x * t + neg (T k)) (step k)
      ∙ ring 4 R (λ x a t s. x ⊠ a ⊞ x ⊠ (x ⊠ t ⊟ (𝟏 ⊟ x ⊠ x) ⊠ s) ⊟ t)
      (λ x a t s. x ⊠ a ⊟ (𝟏 ⊟ x ⊠ x) ⊠ (t ⊞ x ⊠ s)) refl x (T (suc k)) (T k) (S k)
      ∙ ap (λ s. x * T (suc k) + neg ((1# + neg (x * x)) * s)) (sym (second_next k))

  -- T_k² + (1 - x²) S_k² is 1
  pub chebyshev_square : (k : ℕ) → T k * T k + (1# + neg (x * x)) * (S k * S k) ≡ 1#
  chebyshev_square zero = ap₂ (λ t s. t * t + (1# + neg (x * x)) * (s * s)) chebyshev_zero second_zero
      ∙ ring 1 R (λ x. 𝟏 ⊠ 𝟏 ⊞ (𝟏 ⊟ x ⊠ x) ⊠ (𝟎 ⊠ 𝟎)) (λ x. 𝟏) refl x
  chebyshev_square (suc k) = ap₂ (λ t s. t * t + (1# + neg (x * x)) * (s * s)) (step k) (second_next k)
      ∙ ring 3 R (λ x t s. (x ⊠ t ⊟ (𝟏 ⊟ x ⊠ x) ⊠ s) ⊠ (x ⊠ t ⊟ (𝟏 ⊟ x ⊠ x) ⊠ s)
      ⊞ (𝟏 ⊟ x ⊠ x) ⊠ ((t ⊞ x ⊠ s) ⊠ (t ⊞ x ⊠ s)))
      (λ x t s. t ⊠ t ⊞ (𝟏 ⊟ x ⊠ x) ⊠ (s ⊠ s)) refl x (T k) (S k)
      ∙ chebyshev_square k

module _ (O : Ordered) where
  open O use {ring as R, ◌≤◌, ≤_trans, ≤-total, ≤-mul}
  open R use {Carrier, 0#, 1#, ◌+◌, ◌*◌, neg, *-one}

  infixl 60 ◌+◌
  infixl 70 ◌*◌
  infix 50 ◌≤◌
  -- a number whose square is at most 1 is at most 1
  root_≤ : (a : Carrier) → 0# ≤ a → a * a ≤ 1# → a ≤ 1#
  root_≤ a h k = go (≤-total a 1#)
    where
      go : a ≤ 1# ⊎ 1# ≤ a → a ≤ 1#
      go (inl l) = l
      go (inr l) = ≤_trans (≤-reflexive O (ring 1 R (λ a. a) (λ a. 𝟏 ⊠ a) refl a)) (≤_trans (*-mono O h l) k)

  -- from -1 to 1 every T_k lies from -1 to 1
  pub chebyshev_≤ : (x : Carrier) → abs O x ≤ 1# → (k : ℕ) → abs O (chebyshev R x k) ≤ 1#
  chebyshev_≤ x h k = root_≤ (abs O t) (abs_nonneg O t) (≤_trans (≤-reflexive O (sym (abs_mul O t t)))
      (≤_trans (≤-reflexive O (abs_pos O (square_nonneg O t)))
      (le_by O _ (≤-mul (sub_nonneg O square) (square_nonneg O (second R x k))) (chebyshev_square R x k))))
    where
      t : Carrier
      t = chebyshev R x k

      square : x * x ≤ 1#
      square = ≤_trans (le_abs O (x * x)) (≤_trans (abs_prod O x x h h) (≤-reflexive O (*-one 1#)))
