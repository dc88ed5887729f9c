-- Where a polynomial in one variable is not negative its antiderivative does not fall, on any interval: by sums over
-- equal parts and the Archimedean property, with no limit taken.
use Rattle.std.specs.Prelude.{◌≡◌}
use Rattle.std.proofs.Math.Path.{refl, sym, ap}
use Rattle.std.proofs.Common.{◌∙◌, arith}
use mathlib.Core.List.{[], ◌∷◌}
use Prim.Native.Nat.{ℕ, zero, suc}
use Prim.Native.Nat as N
use Rattle.algebra.specs.Ring.{nat, pow}
use Rattle.algebra.specs.RingLaws.{nat_zero, nat_suc}
use Rattle.algebra.specs.RingSolver.{𝟎, 𝟏, ◌⊞◌, ◌⊟◌, ◌⊠◌, ⊝◌, ring}
use Rattle.algebra.specs.Ordered.{abs}
use Rattle.algebra.specs.OrderedLaws.{≤-reflexive, le_by, sub_nonneg, add_nonneg, +-mono, *-mono, neg_mono, nat_nonneg}
use Rattle.algebra.specs.OrderedLaws.{abs_pos, abs_nonneg, abs_le, le_abs, neg_le_abs, triangle, abs_prod, pow_le}
use Rattle.algebra.specs.OrderedLaws.{square_nonneg, nat_mono}
use Rattle.algebra.specs.Field.{Field}
use Rattle.algebra.specs.FieldLaws.{reciprocal_nonneg}
use Rattle.polynomial.specs.Antiderivative.{PowerTerm, Univariate, value, antiderivative}

module _ (F : Field) where
  open F use {ordered as O, reciprocal, nat_reciprocal, archimedean}
  open O use {ring as R, ◌≤◌, ≤-refl, ≤_trans, ≤-add, ≤-mul}
  open R use {Carrier, 0#, 1#, ◌+◌, ◌*◌, neg, *-assoc, *-one}

  infixl 60 ◌+◌ ◌-◌
  infixl 70 ◌*◌
  infix 50 ◌≤◌
  infix 90 ∣◌∣
  -- the difference
  abbrev ◌-◌ : Carrier → Carrier → Carrier
  a - b = a + neg b

  -- the absolute value
  abbrev ∣◌∣ : Carrier → Carrier
  ∣ a ∣ = abs O a

  abs_self : {a : Carrier} → 0# ≤ a → ∣ a ∣ ≤ a
  abs_self h = ≤-reflexive O (abs_pos O h)

  -- ---- one power: from a to b it grows by (m + 1) (b − a) a^m, and besides by at most a multiple of (b − a)²
  -- what x^(m + 1) grows by besides
  power_gap : Carrier → Carrier → ℕ → Carrier
  power_gap a b m = pow R b (suc m) - pow R a (suc m) - nat R (suc m) * ((b - a) * pow R a m)

  -- that multiple, where a and b are at most B in size
  power_bound : Carrier → ℕ → Carrier
  power_bound B zero = 0#
  power_bound B (suc m) = B * power_bound B m + nat R (suc m) * pow R B m

  power_gap_zero : (a b : Carrier) → power_gap a b 0 ≡ 0#
  unfolding power_gap pow
  power_gap_zero a b = rw (nat_suc R 0, nat_zero R, power_gap)
      (ring 2 R (λ a b. b ⊠ 𝟏 ⊟ a ⊠ 𝟏 ⊟ (𝟏 ⊞ 𝟎) ⊠ ((b ⊟ a) ⊠ 𝟏)) (λ a b. 𝟎) refl a b)

  power_gap_suc : (a b : Carrier) (m : ℕ)
      → power_gap a b (suc m) ≡ b * power_gap a b m + nat R (suc m) * ((b - a) * (b - a) * pow R a m)
  unfolding power_gap pow
  power_gap_suc a b m = rw (nat_suc R (suc m), power_gap) (ring 5 R
      (λ a b x y n. b ⊠ (b ⊠ y) ⊟ a ⊠ (a ⊠ x) ⊟ (𝟏 ⊞ n) ⊠ ((b ⊟ a) ⊠ (a ⊠ x)))
      (λ a b x y n. b ⊠ (b ⊠ y ⊟ a ⊠ x ⊟ n ⊠ ((b ⊟ a) ⊠ x)) ⊞ n ⊠ ((b ⊟ a) ⊠ (b ⊟ a) ⊠ x)) refl
      a b (pow R a m) (pow R b m) (nat R (suc m)))

  power_gap_le : (B a b : Carrier) → ∣ a ∣ ≤ B → ∣ b ∣ ≤ B → (m : ℕ)
      → ∣ power_gap a b m ∣ ≤ power_bound B m * ((b - a) * (b - a))
  unfolding power_bound
  power_gap_le B a b ha hb zero = rw (power_gap_zero a b) (≤_trans (abs_self (≤-refl 0#))
      (≤-reflexive O (ring 2 R (λ a b. 𝟎) (λ a b. 𝟎 ⊠ ((b ⊟ a) ⊠ (b ⊟ a))) refl a b)))
  power_gap_le B a b ha hb (suc m) = rw (power_gap_suc a b m) (≤_trans (triangle O _ _) (≤_trans
      (+-mono O (abs_prod O _ _ hb (power_gap_le B a b ha hb m))
      (abs_prod O _ _ (abs_self (nat_nonneg O (suc m)))
      (abs_prod O _ _ (abs_self (square_nonneg O (b - a))) (pow_le O a ha m))))
      (≤-reflexive O (ring 5 R (λ B k s n x. B ⊠ (k ⊠ s) ⊞ n ⊠ (s ⊠ x)) (λ B k s n x. (B ⊠ k ⊞ n ⊠ x) ⊠ s) refl
      B (power_bound B m) ((b - a) * (b - a)) (nat R (suc m)) (pow R B m)))))

  -- ---- a polynomial: its antiderivative grows by (b − a) p(a), and besides by at most a multiple of (b − a)²
  -- what it grows by besides
  gap : Univariate F → Carrier → Carrier → Carrier
  gap p a b = antiderivative F p b - antiderivative F p a - (b - a) * value F p a

  -- that multiple, where a and b are at most B in size
  bound : Carrier → Univariate F → Carrier
  bound B [] = 0#
  bound B (t ∷ p) = ∣ t.coefficient ∣ * (power_bound B t.exponent * reciprocal (suc t.exponent)) + bound B p

  gap_nil : (a b : Carrier) → gap [] a b ≡ 0#
  unfolding gap value antiderivative
  gap_nil a b = ring 2 R (λ a b. 𝟎 ⊟ 𝟎 ⊟ (b ⊟ a) ⊠ 𝟎) (λ a b. 𝟎) refl a b

  -- one term more: its antiderivative is c pb v at b and c pa v at a, with v for 1 / n
  gap_law : (c pb pa v Ab Aa d x E n : Carrier) → n * v ≡ 1#
      → (c * (pb * v) + Ab) - (c * (pa * v) + Aa) - d * (c * x + E)
      ≡ c * ((pb - pa - n * (d * x)) * v) + (Ab - Aa - d * E)
  gap_law c pb pa v Ab Aa d x E n h =
      ring 9 R (λ c pb pa v Ab Aa d x E. (c ⊠ (pb ⊠ v) ⊞ Ab) ⊟ (c ⊠ (pa ⊠ v) ⊞ Aa) ⊟ d ⊠ (c ⊠ x ⊞ E))
      (λ c pb pa v Ab Aa d x E. c ⊠ (pb ⊠ v) ⊟ c ⊠ (pa ⊠ v) ⊟ c ⊠ (d ⊠ x) ⊠ 𝟏 ⊞ (Ab ⊟ Aa ⊟ d ⊠ E)) refl
      c pb pa v Ab Aa d x E
      ∙ ap (λ w. c * (pb * v) - c * (pa * v) - c * (d * x) * w + (Ab - Aa - d * E)) (sym h)
      ∙ ring 10 R
      (λ c pb pa v Ab Aa d x E n. c ⊠ (pb ⊠ v) ⊟ c ⊠ (pa ⊠ v) ⊟ c ⊠ (d ⊠ x) ⊠ (n ⊠ v) ⊞ (Ab ⊟ Aa ⊟ d ⊠ E))
      (λ c pb pa v Ab Aa d x E n. c ⊠ ((pb ⊟ pa ⊟ n ⊠ (d ⊠ x)) ⊠ v) ⊞ (Ab ⊟ Aa ⊟ d ⊠ E)) refl
      c pb pa v Ab Aa d x E n

  gap_cons : (t : PowerTerm Carrier) (p : Univariate F) (a b : Carrier)
      → gap (t ∷ p) a b ≡ t.coefficient * (power_gap a b t.exponent * reciprocal (suc t.exponent)) + gap p a b
  unfolding gap value antiderivative power_gap
  gap_cons t p a b = gap_law t.coefficient (pow R b (suc t.exponent)) (pow R a (suc t.exponent))
      (reciprocal (suc t.exponent)) (antiderivative F p b) (antiderivative F p a) (b - a) (pow R a t.exponent)
      (value F p a) (nat R (suc t.exponent)) (nat_reciprocal (suc t.exponent) (omega arith))

  gap_le : (B : Carrier) (p : Univariate F) (a b : Carrier) → ∣ a ∣ ≤ B → ∣ b ∣ ≤ B
      → ∣ gap p a b ∣ ≤ bound B p * ((b - a) * (b - a))
  unfolding bound
  gap_le B [] a b ha hb = rw (gap_nil a b) (≤_trans (abs_self (≤-refl 0#))
      (≤-reflexive O (ring 2 R (λ a b. 𝟎) (λ a b. 𝟎 ⊠ ((b ⊟ a) ⊠ (b ⊟ a))) refl a b)))
  gap_le B (t ∷ p) a b ha hb = rw (gap_cons t p a b) (≤_trans (triangle O _ _) (≤_trans
      (+-mono O (abs_prod O _ _ (≤-refl ∣ t.coefficient ∣)
      (abs_prod O _ _ (power_gap_le B a b ha hb t.exponent) (abs_self (reciprocal_nonneg F _ (omega arith)))))
      (gap_le B p a b ha hb))
      (≤-reflexive O (ring 5 R (λ c k s v m. c ⊠ (k ⊠ s ⊠ v) ⊞ m ⊠ s) (λ c k s v m. (c ⊠ (k ⊠ v) ⊞ m) ⊠ s) refl
      ∣ t.coefficient ∣ (power_bound B t.exponent) ((b - a) * (b - a)) (reciprocal (suc t.exponent))
      (bound B p)))))

  -- so where p(a) is not negative, the antiderivative falls by at most that
  fall_le : (B : Carrier) (p : Univariate F) (a b : Carrier) → ∣ a ∣ ≤ B → ∣ b ∣ ≤ B → 0# ≤ b - a → 0# ≤ value F p a
      → antiderivative F p a ≤ antiderivative F p b + bound B p * ((b - a) * (b - a))
  unfolding gap
  fall_le B p a b ha hb hd hp =
      le_by O _ (add_nonneg O (sub_nonneg O (≤_trans (neg_le_abs O (gap p a b)) (gap_le B p a b ha hb))) (≤-mul hd hp))
      (ring 5 R (λ A A' D E S. A ⊞ ((S ⊟ ⊝ (A' ⊟ A ⊟ D ⊠ E)) ⊞ D ⊠ E)) (λ A A' D E S. A' ⊞ S) refl
      (antiderivative F p a) (antiderivative F p b) (b - a) (value F p a) (bound B p * ((b - a) * (b - a))))

  -- every point from a to b is at most this in size
  size : Carrier → Carrier → Carrier
  size a b = ∣ a ∣ + ∣ b ∣

  -- ---- the sum over n equal parts of [a, b]
  module _ (p : Univariate F) (a b : Carrier) (hab : a ≤ b) (hp : (x : Carrier) → a ≤ x → x ≤ b → 0# ≤ value F p x)
      (n : ℕ) (hn : N.◌≤◌ 1 n) where
    step : Carrier
    step = (b - a) * reciprocal n

    at : ℕ → Carrier
    at j = a + nat R j * step

    step_nonneg : 0# ≤ step
    unfolding step
    step_nonneg = ≤-mul (sub_nonneg O hab) (reciprocal_nonneg F n hn)

    all_steps : nat R n * step ≡ b - a
    unfolding step
    all_steps = ring 3 R (λ n w v. n ⊠ (w ⊠ v)) (λ n w v. w ⊠ (n ⊠ v)) refl (nat R n) (b - a) (reciprocal n)
        ∙ ap (λ x. (b - a) * x) (nat_reciprocal n hn) ∙ *-one (b - a)

    at_low : (j : ℕ) → a ≤ at j
    unfolding at
    at_low j = le_by O (nat R j * step) (≤-mul (nat_nonneg O j) step_nonneg) refl

    at_high : (j : ℕ) → N.◌≤◌ j n → at j ≤ b
    unfolding at
    at_high j l = le_by O (b - a - nat R j * step)
        (sub_nonneg O (≤_trans (*-mono O step_nonneg (nat_mono O j n l)) (≤-reflexive O all_steps)))
        (ring 3 R (λ a b x. a ⊞ x ⊞ (b ⊟ a ⊟ x)) (λ a b x. b) refl a b (nat R j * step))

    at_bounded : (j : ℕ) → N.◌≤◌ j n → ∣ at j ∣ ≤ size a b
    unfolding size
    at_bounded j l = abs_le O
        (≤_trans (at_high j l) (≤_trans (le_abs O b) (le_by O ∣ a ∣ (abs_nonneg O a) (R.+_comm _ _))))
        (≤_trans (neg_mono O (at_low j)) (≤_trans (neg_le_abs O a) (le_by O ∣ b ∣ (abs_nonneg O b) refl)))

    at_step : (j : ℕ) → at (suc j) - at j ≡ step
    unfolding at
    at_step j = rw (nat_suc R j, at)
        (ring 3 R (λ a n h. a ⊞ (𝟏 ⊞ n) ⊠ h ⊟ (a ⊞ n ⊠ h)) (λ a n h. h) refl a (nat R j) step)

    -- what the antiderivative falls by in one step at most
    loss : Carrier
    loss = bound (size a b) p * (step * step)

    one_step : (j : ℕ) → N.◌≤◌ (suc j) n → antiderivative F p (at j) ≤ antiderivative F p (at (suc j)) + loss
    unfolding loss
    one_step j l = rw (at_step j) at (fall_le (size a b) p (at j) (at (suc j))
        (at_bounded j (omega arith)) (at_bounded (suc j) l)
        (≤_trans step_nonneg (≤-reflexive O (sym (at_step j)))) (hp (at j) (at_low j) (at_high j (omega arith))))

    steps : (j : ℕ) → N.◌≤◌ j n → antiderivative F p (at 0) ≤ antiderivative F p (at j) + nat R j * loss
    steps zero l = ≤-reflexive O (ring 2 R (λ A q. A) (λ A q. A ⊞ 𝟎 ⊠ q) refl (antiderivative F p (at 0)) loss
        ∙ ap (λ z. antiderivative F p (at 0) + z * loss) (sym (nat_zero R)))
    steps (suc j) l = ≤_trans (steps j (omega arith)) (≤_trans (+-mono O (one_step j l) (≤-refl (nat R j * loss)))
        (≤-reflexive O (ring 3 R (λ A q n. A ⊞ q ⊞ n ⊠ q) (λ A q n. A ⊞ (𝟏 ⊞ n) ⊠ q) refl
        (antiderivative F p (at (suc j))) loss (nat R j)
        ∙ ap (λ z. antiderivative F p (at (suc j)) + z * loss) (sym (nat_suc R j)))))

    at_start : at 0 ≡ a
    unfolding at
    at_start = ap (λ z. a + z * step) (nat_zero R) ∙ ring 2 R (λ a h. a ⊞ 𝟎 ⊠ h) (λ a h. a) refl a step

    at_end : at n ≡ b
    unfolding at
    at_end = ap (λ z. a + z) all_steps ∙ ring 2 R (λ a b. a ⊞ (b ⊟ a)) (λ a b. b) refl a b

    all_losses : nat R n * loss ≡ bound (size a b) p * (b - a) * (b - a) * reciprocal n
    unfolding loss step
    all_losses =
        ring 3 R (λ n m h. n ⊠ (m ⊠ (h ⊠ h))) (λ n m h. m ⊠ (n ⊠ h) ⊠ h) refl (nat R n) (bound (size a b) p) step
        ∙ ap (λ z. bound (size a b) p * z * step) all_steps ∙ sym (*-assoc _ _ _)

    ends : antiderivative F p a ≤ antiderivative F p b + bound (size a b) p * (b - a) * (b - a) * reciprocal n
    ends = rw (at_start, at_end, all_losses) at (steps n (omega arith))

    total_fall : antiderivative F p a - antiderivative F p b ≤ bound (size a b) p * (b - a) * (b - a) * reciprocal n
    total_fall = ≤_trans (≤-add (neg (antiderivative F p b)) ends) (≤-reflexive O
        (ring 2 R (λ A q. A ⊞ q ⊟ A) (λ A q. q) refl (antiderivative F p b) _))

  -- where p is not negative from a to b, its antiderivative at a is at most that at b
  pub antiderivative_mono : (p : Univariate F) (a b : Carrier) → a ≤ b
      → ((x : Carrier) → a ≤ x → x ≤ b → 0# ≤ value F p x)
      → antiderivative F p a ≤ antiderivative F p b
  antiderivative_mono p a b hab hp = le_by O _ (sub_nonneg O (archimedean _ _ (λ n l. total_fall p a b hab hp n l)))
      (ring 2 R (λ a b. a ⊞ (𝟎 ⊟ (a ⊟ b))) (λ a b. b) refl (antiderivative F p a) (antiderivative F p b))
