-- The integral over the box is linear and monotone: variable by variable, it is a difference of antiderivatives.
use Rattle.std.specs.Prelude.{◌≡◌, Bool, not}
use Rattle.std.proofs.Math.Path.{refl, sym, ap, ap₂}
use Rattle.std.proofs.Common.{◌∙◌, arith}
use Rattle.std.proofs.Math.Bool.{true, false}
use mathlib.Core.List.{List, [], ◌∷◌}
use Prim.Native.Nat.{ℕ, zero, suc, ◌^◌}
use Prim.Native.Nat as N
use Rattle.std.proofs.Math.Nat as NatL
use Rattle.algebra.specs.Ring.{nat, pow}
use Rattle.algebra.specs.RingLaws.{zero-+, zero-*, *-zero, nat_one, nat_suc, nat_mul, pow_one}
use Rattle.algebra.specs.RingSolver.{𝟎, 𝟏, ◌⊞◌, ◌⊟◌, ◌⊠◌, ⊝◌, ring}
use Rattle.algebra.specs.Ordered.{abs}
use Rattle.algebra.specs.OrderedLaws.{≤-reflexive, le_by, sub_nonneg, add_nonneg, neg_mono, abs_le, one_nonneg}
use Rattle.algebra.specs.Field.{Field}
use Rattle.algebra.specs.FieldLaws.{reciprocal_one, reciprocal_mul}
use Rattle.polynomial.specs.Polynomial.{Polynomial, monomial, eval, constant, sum, scale, negation}
use Rattle.polynomial.proofs.PolynomialLaws.{eval_constant, eval_sum, eval_negation}
use Rattle.polynomial.specs.Box.{Box, none, more}
use Rattle.polynomial.specs.Integral.{even, first, rest, all_even, divisor, moment, integral}
use Rattle.polynomial.specs.Antiderivative.{Univariate, value, antiderivative}
use Rattle.polynomial.specs.AntiderivativeLaws.{antiderivative_mono}

pub divisor_pos : (n : ℕ) (es : List ℕ) → N.◌≤◌ 1 (divisor n es)
unfolding divisor
divisor_pos zero es = omega arith
divisor_pos (suc n) es = NatL.mul-pos (omega arith) (divisor_pos n (rest es))

module _ (F : Field) where
  open F use {ordered as O, reciprocal}
  open O use {ring as R, ◌≤◌, ≤_trans}
  open R use {Carrier, 0#, 1#, ◌+◌, ◌*◌, neg, +_assoc, +-zero, *-one, *-assoc}

  infixl 60 ◌+◌
  infixl 70 ◌*◌
  infix 50 ◌≤◌
  nat_two : nat R 2 ≡ 1# + 1#
  nat_two = nat_suc R 1 ∙ ap (λ z. 1# + z) (nat_one R)

  -- ---- linear
  pub integral_sum : (n : ℕ) (p q : Polynomial R) → integral F n (sum R p q) ≡ integral F n p + integral F n q
  unfolding integral
  integral_sum n [] q = sym (zero-+ R _)
  integral_sum n (t ∷ p) q =
      ap (λ z. t.coefficient * moment F n t.exponents + z) (integral_sum n p q) ∙ sym (+_assoc _ _ _)

  pub integral_scale : (n : ℕ) (c : Carrier) (p : Polynomial R) → integral F n (scale R c p) ≡ c * integral F n p
  unfolding integral scale
  integral_scale n c [] = sym (*-zero R c)
  integral_scale n c (t ∷ p) = ap (λ z. c * t.coefficient * moment F n t.exponents + z) (integral_scale n c p)
      ∙ ring 4 R (λ c a m v. c ⊠ a ⊠ m ⊞ c ⊠ v) (λ c a m v. c ⊠ (a ⊠ m ⊞ v)) refl _ _ _ _

  pub integral_negation : (n : ℕ) (p : Polynomial R) → integral F n (negation R p) ≡ neg (integral F n p)
  integral_negation n p = integral_scale n (neg 1#) p ∙ ring 1 R (λ x. ⊝ 𝟏 ⊠ x) (λ x. ⊝ x) refl (integral F n p)

  -- ---- one variable: the integral of x^e over [-1, 1]
  factor : ℕ → Carrier
  factor e = (pow R 1# (suc e) + neg (pow R (neg 1#) (suc e))) * reciprocal (suc e)

  sign : Bool → Carrier
  sign true = 1#
  sign false = neg 1#

  pow_sign : (n : ℕ) → pow R (neg 1#) n ≡ sign (even n)
  unfolding pow even sign
  pow_sign zero = refl
  pow_sign (suc n) = ap (λ z. neg 1# * z) (pow_sign n) ∙ turn (even n)
    where
      turn : (b : Bool) → neg 1# * sign b ≡ sign (not b)
      turn true = *-one (neg 1#)
      turn false = ring 0 R (⊝ 𝟏 ⊠ ⊝ 𝟏) 𝟏 refl

  -- 2 / (e + 1) if e is even, otherwise 0
  abbrev factor_by : ℕ → Bool → Carrier
  factor_by e b = elim b as (λ b. Carrier) [ true ↦ (1# + 1#) * reciprocal (suc e) | false ↦ 0# ]

  factor_is : (e : ℕ) → factor e ≡ factor_by e (even e)
  unfolding factor sign even
  factor_is e = ap₂ (λ u v. (u + neg v) * reciprocal (suc e)) (pow_one R (suc e)) (pow_sign (suc e)) ∙ turn (even e)
    where
      turn : (b : Bool) → (1# + neg (sign (not b))) * reciprocal (suc e) ≡ factor_by e b
      turn true = ring 1 R (λ v. (𝟏 ⊟ ⊝ 𝟏) ⊠ v) (λ v. (𝟏 ⊞ 𝟏) ⊠ v) refl (reciprocal (suc e))
      turn false = ring 1 R (λ v. (𝟏 ⊟ 𝟏) ⊠ v) (λ v. 𝟎) refl (reciprocal (suc e))

  -- ---- a moment is the product of its variables' factors
  moment_zero : (es : List ℕ) → moment F 0 es ≡ 1#
  unfolding moment all_even divisor
  moment_zero es = ap₂ ◌*◌ (nat_one R) (reciprocal_one F) ∙ *-one 1#

  -- 2^n / d if all exponents are even, otherwise 0
  abbrev moment_by : ℕ → ℕ → Bool → Carrier
  moment_by n d b = elim b as (λ b. Carrier) [ true ↦ nat R (2 ^ n) * reciprocal d | false ↦ 0# ]

  moment_suc : (n : ℕ) (es : List ℕ) → moment F (suc n) es ≡ factor (first es) * moment F n (rest es)
  unfolding moment all_even divisor
  moment_suc n es = go (even (first es)) (all_even n (rest es)) (factor_is (first es))
    where
      e : ℕ
      e = first es

      d : ℕ
      d = divisor n (rest es)

      go : (b c : Bool) → factor e ≡ factor_by e b
          → moment_by (suc n) (N.◌*◌ (suc e) d) (elim b as (λ b. Bool) [ true ↦ c | false ↦ false ])
          ≡ factor e * moment_by n d c
      go true true h = ap₂ ◌*◌ (ap (nat R) (NatL.pow-suc 2 n) ∙ nat_mul R _ _ ∙ ap (λ z. nat R (2 ^ n) * z) nat_two)
          (reciprocal_mul F (suc e) d (omega arith) (divisor_pos n (rest es)))
          ∙ ring 4 R (λ q t v w. q ⊠ t ⊠ (v ⊠ w)) (λ q t v w. t ⊠ v ⊠ (q ⊠ w)) refl _ _ _ _
          ∙ ap (λ z. z * (nat R (2 ^ n) * reciprocal d)) (sym h)
      go true false h = sym (*-zero R _)
      go false true h = sym (ap (λ z. z * (nat R (2 ^ n) * reciprocal d)) h ∙ zero-* R _)
      go false false h = sym (*-zero R _)

  -- ---- variable by variable
  -- the first variable integrated out
  integrate_first : Polynomial R → Polynomial R
  integrate_first [] = []
  integrate_first (t ∷ p) =
      record { coefficient = t.coefficient * factor (first t.exponents); exponents = rest t.exponents }
      ∷ integrate_first p

  integral_first : (n : ℕ) (p : Polynomial R) → integral F (suc n) p ≡ integral F n (integrate_first p)
  unfolding integral integrate_first
  integral_first n [] = refl
  integral_first n (t ∷ p) = ap₂ ◌+◌
      (ap (λ z. t.coefficient * z) (moment_suc n t.exponents) ∙ sym (*-assoc _ _ _)) (integral_first n p)

  monomial_nil : (es : List ℕ) → monomial R es [] ≡ 1#
  unfolding monomial
  monomial_nil [] = refl
  monomial_nil (e ∷ es) = refl

  integral_zero : (p : Polynomial R) → integral F 0 p ≡ eval R p []
  unfolding integral eval
  integral_zero [] = refl
  integral_zero (t ∷ p) = ap₂ (λ u v. t.coefficient * u + v)
      (moment_zero t.exponents ∙ sym (monomial_nil t.exponents)) (integral_zero p)

  -- the polynomial in the first variable, the others fixed
  slice : Polynomial R → List Carrier → Univariate F
  slice [] ys = []
  slice (t ∷ p) ys =
      record { coefficient = t.coefficient * monomial R (rest t.exponents) ys; exponent = first t.exponents }
      ∷ slice p ys

  monomial_cons : (es : List ℕ) (x : Carrier) (ys : List Carrier)
      → monomial R es (x ∷ ys) ≡ pow R x (first es) * monomial R (rest es) ys
  unfolding first rest monomial pow
  monomial_cons [] x ys = sym (*-one 1#)
  monomial_cons (e ∷ es) x ys = refl

  slice_value : (p : Polynomial R) (x : Carrier) (ys : List Carrier) → eval R p (x ∷ ys) ≡ value F (slice p ys) x
  unfolding slice eval value
  slice_value [] x ys = refl
  slice_value (t ∷ p) x ys = ap₂ ◌+◌ (ap (λ z. t.coefficient * z) (monomial_cons t.exponents x ys)
      ∙ ring 3 R (λ c p m. c ⊠ (p ⊠ m)) (λ c p m. c ⊠ m ⊠ p) refl _ _ _) (slice_value p x ys)

  -- the integral over [-1, 1] as a difference of antiderivatives
  slice_integral : (p : Polynomial R) (ys : List Carrier) → eval R (integrate_first p) ys
      ≡ antiderivative F (slice p ys) 1# + neg (antiderivative F (slice p ys) (neg 1#))
  unfolding slice integrate_first eval antiderivative factor
  slice_integral [] ys = ring 0 R 𝟎 (𝟎 ⊟ 𝟎) refl
  slice_integral (t ∷ p) ys = ap (λ z. t.coefficient * ((high + neg low) * v) * m + z) (slice_integral p ys)
      ∙ ring 7 R (λ c a b v m x y. c ⊠ ((a ⊟ b) ⊠ v) ⊠ m ⊞ (x ⊟ y))
      (λ c a b v m x y. (c ⊠ m ⊠ (a ⊠ v) ⊞ x) ⊟ (c ⊠ m ⊠ (b ⊠ v) ⊞ y)) refl
      t.coefficient high low v m (antiderivative F (slice p ys) 1#) (antiderivative F (slice p ys) (neg 1#))
    where
      high : Carrier
      high = pow R 1# (suc (first t.exponents))

      low : Carrier
      low = pow R (neg 1#) (suc (first t.exponents))

      v : Carrier
      v = reciprocal (suc (first t.exponents))

      m : Carrier
      m = monomial R (rest t.exponents) ys

  minus_one≤one : neg 1# ≤ 1#
  minus_one≤one = le_by O (1# + 1#) (add_nonneg O (one_nonneg O) (one_nonneg O)) (ring 0 R (⊝ 𝟏 ⊞ (𝟏 ⊞ 𝟏)) 𝟏 refl)

  -- ---- monotone
  pub integral_nonneg : (n : ℕ) (p : Polynomial R) → ((xs : List Carrier) → Box O n xs → 0# ≤ eval R p xs)
      → 0# ≤ integral F n p
  integral_nonneg zero p h = ≤_trans (h [] none) (≤-reflexive O (sym (integral_zero p)))
  integral_nonneg (suc n) p h = ≤_trans (integral_nonneg n (integrate_first p) first_nonneg)
      (≤-reflexive O (sym (integral_first n p)))
    where
      in_box : (x : Carrier) → neg 1# ≤ x → x ≤ 1# → abs O x ≤ 1#
      in_box x lo hi = abs_le O hi (≤_trans (neg_mono O lo) (≤-reflexive O (ring 0 R (⊝ (⊝ 𝟏)) 𝟏 refl)))

      first_nonneg : (ys : List Carrier) → Box O n ys → 0# ≤ eval R (integrate_first p) ys
      first_nonneg ys b = rw (slice_integral p ys) (sub_nonneg O (antiderivative_mono F (slice p ys) (neg 1#) 1#
          minus_one≤one (λ x lo hi. rw (slice_value p x ys) at (h (x ∷ ys) (more (in_box x lo hi) b)))))

  -- ---- the integral of a constant
  factor_zero : factor 0 ≡ 1# + 1#
  unfolding even
  factor_zero = factor_is 0 ∙ ap (λ z. (1# + 1#) * z) (reciprocal_one F) ∙ *-one (1# + 1#)

  moment_nil : (n : ℕ) → moment F n [] ≡ nat R (2 ^ n)
  unfolding first rest
  moment_nil zero = moment_zero [] ∙ sym (nat_one R)
  moment_nil (suc n) = moment_suc n [] ∙ ap₂ ◌*◌ factor_zero (moment_nil n)
      ∙ sym (ap (nat R) (NatL.pow-succ' 2 n) ∙ nat_mul R 2 _ ∙ ap (λ z. z * nat R (2 ^ n)) nat_two)

  pub integral_constant : (n : ℕ) (c : Carrier) → integral F n (constant R c) ≡ c * nat R (2 ^ n)
  unfolding integral constant
  integral_constant n c = +-zero _ ∙ ap (λ z. c * z) (moment_nil n)

  -- p ≤ q + e at every point of the box gives the same of the integrals, with 2^n e for e
  pub integral_mono : (n : ℕ) (p q : Polynomial R) (e : Carrier)
      → ((xs : List Carrier) → Box O n xs → eval R p xs ≤ eval R q xs + e)
      → integral F n p ≤ integral F n q + e * nat R (2 ^ n)
  integral_mono n p q e h = le_by O _ (≤_trans (integral_nonneg n difference pointwise) (≤-reflexive O integrated))
      (ring 2 R (λ a b. a ⊞ (⊝ a ⊞ b)) (λ a b. b) refl (integral F n p) (integral F n q + e * nat R (2 ^ n)))
    where
      difference : Polynomial R
      difference = sum R (negation R p) (sum R q (constant R e))

      valued : (xs : List Carrier) → eval R difference xs ≡ neg (eval R p xs) + (eval R q xs + e)
      valued xs = eval_sum R (negation R p) (sum R q (constant R e)) xs ∙ ap₂ ◌+◌ (eval_negation R p xs)
          (eval_sum R q (constant R e) xs ∙ ap (λ z. eval R q xs + z) (eval_constant R e xs))

      pointwise : (xs : List Carrier) → Box O n xs → 0# ≤ eval R difference xs
      pointwise xs b = ≤_trans (sub_nonneg O (h xs b)) (≤-reflexive O (R.+_comm _ _ ∙ sym (valued xs)))

      integrated : integral F n difference ≡ neg (integral F n p) + (integral F n q + e * nat R (2 ^ n))
      integrated = integral_sum n (negation R p) (sum R q (constant R e)) ∙ ap₂ ◌+◌ (integral_negation n p)
          (integral_sum n q (constant R e) ∙ ap (λ z. integral F n q + z) (integral_constant n e))
