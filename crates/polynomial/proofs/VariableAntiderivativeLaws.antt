-- The antiderivative in one variable of a polynomial in several: it is 0 wherever that variable is 0, its derivative
-- has the polynomial's value, along a segment it is the antiderivative of the integral's own step, and on the box it is
-- bounded by what bounds the polynomial.
use Rattle.std.specs.Prelude.{◌≡◌, ◌⊎◌, length, get_or}
use Rattle.std.proofs.Math.Path.{refl, sym, ap, ap₂}
use Rattle.std.proofs.Common.{◌∙◌, subst, inl, inr, arith}
use mathlib.Core.List.{List, [], ◌∷◌}
use Prim.Native.Nat.{ℕ, zero, suc, ◌<◌}
use Rattle.algebra.specs.Ring.{nat, pow}
use Rattle.algebra.specs.RingSolver.{𝟎, 𝟏, ◌⊞◌, ◌⊟◌, ◌⊠◌, ⊝◌, ring}
use Rattle.algebra.specs.Ordered.{abs}
use Rattle.algebra.specs.OrderedLaws.{≤-reflexive, le_by, sub_nonneg, add_nonneg, neg_mono, abs_nonneg, abs_le}
use Rattle.algebra.specs.OrderedLaws.{le_abs, neg_le_abs}
use Rattle.algebra.specs.Field.{Field}
use Rattle.algebra.specs.FieldLaws.{reciprocal_one}
use Rattle.polynomial.specs.Polynomial.{Polynomial, monomial, eval, constant, sum, scale, exponent}
use Rattle.polynomial.specs.Polynomial.{without, raise, lower, replace}
use Rattle.polynomial.proofs.PolynomialLaws.{eval_sum, eval_scale, eval_constant, monomial_replace}
use Rattle.polynomial.specs.Box.{Box, none, more}
use Rattle.polynomial.proofs.BoxLaws.{box_length, box_replace}
use Rattle.polynomial.specs.Antiderivative.{Univariate, value, antiderivative, antiderivative_in, derivative_in}
use Rattle.polynomial.specs.AntiderivativeLaws.{antiderivative_mono}

-- ---- exponents
pub exponent_raise : (v : ℕ) (es : List ℕ) → exponent v (raise v es) ≡ suc (exponent v es)
unfolding exponent raise
exponent_raise zero [] = refl
exponent_raise zero (e ∷ es) = refl
exponent_raise (suc v) [] = exponent_raise v []
exponent_raise (suc v) (e ∷ es) = exponent_raise v es

-- a point with its own coordinate
pub replace_own {ℓ} : {A : Type ℓ} (v : ℕ) (d : A) (xs : List A) → replace v (get_or xs v d) xs ≡ xs
unfolding replace
replace_own v d [] = refl
replace_own zero d (x ∷ xs) = refl
replace_own (suc v) d (x ∷ xs) = ap (λ l. x ∷ l) (replace_own v d xs)

module _ (F : Field) where
  open F use {ordered as O, reciprocal, nat_reciprocal}
  open O use {ring as R, ◌≤◌, ≤-refl, ≤_trans, ≤-total, ≤-mul}
  open R use {Carrier, 0#, 1#, ◌+◌, ◌*◌, neg, *-assoc, *-one}

  infixl 60 ◌+◌
  infixl 70 ◌*◌
  infix 50 ◌≤◌
  -- ---- the derivative of the antiderivative has the polynomial's value, at every point
  monomial_lower : (v : ℕ) (es : List ℕ) (xs : List Carrier)
      → monomial R (lower v (raise v es)) xs ≡ monomial R es xs
  unfolding monomial lower raise pow
  monomial_lower zero [] [] = refl
  monomial_lower zero [] (x ∷ xs) = *-one 1#
  monomial_lower (suc v) [] [] = refl
  monomial_lower (suc v) [] (x ∷ xs) = ap (λ z. 1# * z) (monomial_lower v [] xs) ∙ *-one 1#
  monomial_lower zero (e ∷ es) xs = refl
  monomial_lower (suc v) (e ∷ es) [] = refl
  monomial_lower (suc v) (e ∷ es) (x ∷ xs) = ap (λ z. pow R x e * z) (monomial_lower v es xs)

  pub derivative_back : (v : ℕ) (p : Polynomial R) (xs : List Carrier)
      → eval R (derivative_in F v (antiderivative_in F v p)) xs ≡ eval R p xs
  unfolding eval derivative_in antiderivative_in
  derivative_back v [] xs = refl
  derivative_back v (t ∷ p) xs = ap₂ ◌+◌ (ap₂ ◌*◌ (back t.coefficient (exponent v t.exponents)
      (exponent v (raise v t.exponents)) (exponent_raise v t.exponents)) (monomial_lower v t.exponents xs))
      (derivative_back v p xs)
    where
      back : (c : Carrier) (k j : ℕ) → j ≡ suc k → c * reciprocal (suc k) * nat R j ≡ c
      back c k j e = ap (λ j. c * reciprocal (suc k) * nat R j) e
          ∙ ring 3 R (λ c r n. c ⊠ r ⊠ n) (λ c r n. c ⊠ (n ⊠ r)) refl c (reciprocal (suc k)) (nat R (suc k))
          ∙ ap (λ z. c * z) (nat_reciprocal (suc k) (omega arith)) ∙ *-one c

  -- ---- along variable v it is the antiderivative in one variable
  -- the polynomial in variable v, the others fixed
  unfoldable pub slice_at : ℕ → Polynomial R → List Carrier → Univariate F
  slice_at v [] xs = []
  slice_at v (t ∷ p) xs = record {
    coefficient = t.coefficient * monomial R (without v t.exponents) xs;
    exponent = exponent v t.exponents;
  } ∷ slice_at v p xs

  pub slice_value : (v : ℕ) (p : Polynomial R) (y : Carrier) (xs : List Carrier) → v < length xs
      → eval R p (replace v y xs) ≡ value F (slice_at v p xs) y
  unfolding slice_at eval value
  slice_value v [] y xs l = refl
  slice_value v (t ∷ p) y xs l = ap₂ ◌+◌
      (ap (λ z. t.coefficient * z) (monomial_replace R t.exponents v y xs l) ∙ sym (*-assoc _ _ _))
      (slice_value v p y xs l)

  monomial_raise : (es : List ℕ) (v : ℕ) (y : Carrier) (xs : List Carrier) → v < length xs
      → monomial R (raise v es) (replace v y xs) ≡ monomial R (without v es) xs * pow R y (suc (exponent v es))
  unfolding monomial raise replace without exponent pow
  monomial_raise es v y [] l = absurd (omega arith)
  monomial_raise [] zero y (x ∷ xs) l = ring 1 R (λ y. y ⊠ 𝟏 ⊠ 𝟏) (λ y. 𝟏 ⊠ (y ⊠ 𝟏)) refl y
  monomial_raise [] (suc v) y (x ∷ xs) l = ap (λ z. 1# * z) (monomial_raise [] v y xs (omega arith))
      ∙ ring 1 R (λ y. 𝟏 ⊠ (𝟏 ⊠ (y ⊠ 𝟏))) (λ y. 𝟏 ⊠ (y ⊠ 𝟏)) refl y
  monomial_raise (e ∷ es) zero y (x ∷ xs) l = ring 2 R (λ p m. p ⊠ m) (λ p m. 𝟏 ⊠ m ⊠ p) refl _ _
  monomial_raise (e ∷ es) (suc v) y (x ∷ xs) l =
      ap (λ z. pow R x e * z) (monomial_raise es v y xs (omega arith)) ∙ sym (*-assoc _ _ _)

  pub slice_antiderivative : (v : ℕ) (p : Polynomial R) (y : Carrier) (xs : List Carrier) → v < length xs
      → eval R (antiderivative_in F v p) (replace v y xs) ≡ antiderivative F (slice_at v p xs) y
  unfolding slice_at eval antiderivative_in antiderivative
  slice_antiderivative v [] y xs l = refl
  slice_antiderivative v (t ∷ p) y xs l = ap₂ ◌+◌
      (ap (λ z. t.coefficient * reciprocal (suc (exponent v t.exponents)) * z)
      (monomial_raise t.exponents v y xs l)
      ∙ ring 4 R (λ c r m p. c ⊠ r ⊠ (m ⊠ p)) (λ c r m p. c ⊠ m ⊠ (p ⊠ r)) refl _ _ _ _)
      (slice_antiderivative v p y xs l)

  -- ---- it is 0 wherever the variable is 0
  at_zero : (p : Univariate F) → antiderivative F p 0# ≡ 0#
  unfolding antiderivative pow
  at_zero [] = refl
  at_zero (t ∷ p) = ap (λ z. t.coefficient * (0# * pow R 0# t.exponent * reciprocal (suc t.exponent)) + z)
      (at_zero p)
      ∙ ring 3 R (λ c q r. c ⊠ (𝟎 ⊠ q ⊠ r) ⊞ 𝟎) (λ c q r. 𝟎) refl
      t.coefficient (pow R 0# t.exponent) (reciprocal (suc t.exponent))

  pub antiderivative_zero : (v : ℕ) (p : Polynomial R) (xs : List Carrier) → v < length xs
      → eval R (antiderivative_in F v p) (replace v 0# xs) ≡ 0#
  antiderivative_zero v p xs l = slice_antiderivative v p 0# xs l ∙ at_zero (slice_at v p xs)

  pub antiderivative_at_zero : (v : ℕ) (p : Polynomial R) (xs : List Carrier) → v < length xs → get_or xs v 0# ≡ 0#
      → eval R (antiderivative_in F v p) xs ≡ 0#
  antiderivative_at_zero v p xs l e = ap (eval R (antiderivative_in F v p))
      (sym (replace_own v 0# xs) ∙ ap (λ y. replace v y xs) e) ∙ antiderivative_zero v p xs l

  -- ---- on a segment where the polynomial is not negative it does not fall
  pub antiderivative_in_mono : (v : ℕ) (p : Polynomial R) (xs : List Carrier) → v < length xs
      → (a b : Carrier) → a ≤ b → ((y : Carrier) → a ≤ y → y ≤ b → 0# ≤ eval R p (replace v y xs))
      → eval R (antiderivative_in F v p) (replace v a xs) ≤ eval R (antiderivative_in F v p) (replace v b xs)
  antiderivative_in_mono v p xs l a b h k = ≤_trans (≤-reflexive O (slice_antiderivative v p a xs l))
      (≤_trans (antiderivative_mono F (slice_at v p xs) a b h
      (λ y ha hb. ≤_trans (k y ha hb) (≤-reflexive O (slice_value v p y xs l))))
      (≤-reflexive O (sym (slice_antiderivative v p b xs l))))

  -- ---- sums, multiples and constants
  pub eval_antiderivative_sum : (v : ℕ) (p q : Polynomial R) (xs : List Carrier)
      → eval R (antiderivative_in F v (sum R p q)) xs
      ≡ eval R (antiderivative_in F v p) xs + eval R (antiderivative_in F v q) xs
  unfolding antiderivative_in eval
  eval_antiderivative_sum v [] q xs = ring 1 R (λ z. z) (λ z. 𝟎 ⊞ z) refl _
  eval_antiderivative_sum v (t ∷ p) q xs = ap (λ z. t.coefficient * reciprocal (suc (exponent v t.exponents))
      * monomial R (raise v t.exponents) xs + z) (eval_antiderivative_sum v p q xs) ∙ sym (R.+_assoc _ _ _)

  pub eval_antiderivative_scale : (v : ℕ) (c : Carrier) (p : Polynomial R) (xs : List Carrier)
      → eval R (antiderivative_in F v (scale R c p)) xs ≡ c * eval R (antiderivative_in F v p) xs
  unfolding antiderivative_in scale eval
  eval_antiderivative_scale v c [] xs = ring 1 R (λ c. 𝟎) (λ c. c ⊠ 𝟎) refl c
  eval_antiderivative_scale v c (t ∷ p) xs =
      ap (λ z. c * t.coefficient * r * m + z) (eval_antiderivative_scale v c p xs)
      ∙ ring 5 R (λ c a r m z. c ⊠ a ⊠ r ⊠ m ⊞ c ⊠ z) (λ c a r m z. c ⊠ (a ⊠ r ⊠ m ⊞ z)) refl
      c t.coefficient r m (eval R (antiderivative_in F v p) xs)
    where
      r : Carrier
      r = reciprocal (suc (exponent v t.exponents))

      m : Carrier
      m = monomial R (raise v t.exponents) xs

  pub antiderivative_constant : (v : ℕ) (e y : Carrier) (xs : List Carrier) → v < length xs
      → eval R (antiderivative_in F v (constant R e)) (replace v y xs) ≡ e * y
  antiderivative_constant v e y xs l = slice_antiderivative v (constant R e) y xs l ∙ sliced
    where
      sliced : antiderivative F (slice_at v (constant R e) xs) y ≡ e * y
      sliced = unfold constant slice_at antiderivative without monomial exponent pow in
          (ap (λ r. e * 1# * (y * 1# * r) + 0#) (reciprocal_one F)
          ∙ ring 2 R (λ e y. e ⊠ 𝟏 ⊠ (y ⊠ 𝟏 ⊠ 𝟏) ⊞ 𝟎) (λ e y. e ⊠ y) refl e y)

  -- ---- on the box it is bounded by what bounds the polynomial
  coordinate_le : (v : ℕ) {n : ℕ} {xs : List Carrier} → Box O n xs → v < n → abs O (get_or xs v 0#) ≤ 1#
  coordinate_le v none l = absurd (omega arith)
  coordinate_le zero (more h b) l = h
  coordinate_le (suc v) (more h b) l = coordinate_le v b (omega arith)

  module _ (v : ℕ) (p : Polynomial R) {n : ℕ} {xs : List Carrier} (b : Box O n xs) (l : v < n) (e : Carrier)
      (h : (ys : List Carrier) → Box O n ys → abs O (eval R p ys) ≤ e) where
    -- coordinate v
    y : Carrier
    y = get_or xs v 0#

    inside : v < length xs
    inside = subst (λ k. v < k) (sym (box_length O b)) l

    y_le : abs O y ≤ 1#
    unfolding y
    y_le = coordinate_le v b l

    y_high : y ≤ 1#
    y_high = ≤_trans (le_abs O y) y_le

    y_low : neg y ≤ 1#
    y_low = ≤_trans (neg_le_abs O y) y_le

    e_nonneg : 0# ≤ e
    e_nonneg = ≤_trans (abs_nonneg O (eval R p xs)) (h xs b)

    -- the value there
    a : Carrier
    a = eval R (antiderivative_in F v p) xs

    -- e + s p, for s = 1 and s = -1
    bound : Carrier → Polynomial R
    bound s = sum R (constant R e) (scale R s p)

    bound_eval : (s : Carrier) (ys : List Carrier) → eval R (bound s) ys ≡ e + s * eval R p ys
    unfolding bound
    bound_eval s ys =
        eval_sum R (constant R e) (scale R s p) ys ∙ ap₂ ◌+◌ (eval_constant R e ys) (eval_scale R s p ys)

    bound_antiderivative : (s : Carrier)
        → eval R (antiderivative_in F v (bound s)) (replace v y xs) ≡ e * y + s * a
    unfolding bound a y
    bound_antiderivative s = eval_antiderivative_sum v (constant R e) (scale R s p) (replace v y xs)
        ∙ ap₂ ◌+◌ (antiderivative_constant v e y xs inside)
        (eval_antiderivative_scale v s p (replace v y xs)
        ∙ ap (λ zs. s * eval R (antiderivative_in F v p) zs) (replace_own v 0# xs))

    -- not negative where the coordinate is from -1 to 1
    abbrev Sign : Carrier → Type 0
    Sign s = (z : Carrier) → neg 1# ≤ z → z ≤ 1# → 0# ≤ eval R (bound s) (replace v z xs)

    near : (z : Carrier) → neg 1# ≤ z → z ≤ 1# → abs O (eval R p (replace v z xs)) ≤ e
    near z lo hi = h (replace v z xs) (box_replace O v z
        (abs_le O hi (≤_trans (neg_mono O lo) (≤-reflexive O (ring 0 R (⊝ (⊝ 𝟏)) 𝟏 refl)))) b)

    plus_sign : Sign 1#
    plus_sign z lo hi = ≤_trans (sub_nonneg O (≤_trans (neg_le_abs O _) (near z lo hi)))
        (≤-reflexive O (ring 2 R (λ e v. e ⊟ ⊝ v) (λ e v. e ⊞ 𝟏 ⊠ v) refl e (eval R p (replace v z xs))
        ∙ sym (bound_eval 1# (replace v z xs))))

    minus_sign : Sign (neg 1#)
    minus_sign z lo hi = ≤_trans (sub_nonneg O (≤_trans (le_abs O _) (near z lo hi)))
        (≤-reflexive O (ring 2 R (λ e v. e ⊟ v) (λ e v. e ⊞ ⊝ 𝟏 ⊠ v) refl e (eval R p (replace v z xs))
        ∙ sym (bound_eval (neg 1#) (replace v z xs))))

    low : {z : Carrier} → neg z ≤ 1# → neg 1# ≤ z
    low {z} k = ≤_trans (neg_mono O k) (≤-reflexive O (ring 1 R (λ z. ⊝ (⊝ z)) (λ z. z) refl z))

    zero_low : {z : Carrier} → 0# ≤ z → neg z ≤ 0#
    zero_low k = ≤_trans (neg_mono O k) (≤-reflexive O (ring 0 R (⊝ 𝟎) 𝟎 refl))

    one_nonneg : 0# ≤ 1#
    one_nonneg = ≤_trans (abs_nonneg O y) y_le

    -- from 0 up to y
    rising : (s : Carrier) → 0# ≤ y → Sign s → 0# ≤ e * y + s * a
    rising s hy k = ≤_trans (≤-reflexive O (sym (antiderivative_zero v (bound s) xs inside)))
        (≤_trans (antiderivative_in_mono v (bound s) xs inside 0# y hy
        (λ z lo hi. k z (low (≤_trans (zero_low lo) one_nonneg)) (≤_trans hi y_high)))
        (≤-reflexive O (bound_antiderivative s)))

    -- from y up to 0
    falling : (s : Carrier) → y ≤ 0# → Sign s → e * y + s * a ≤ 0#
    falling s hy k = ≤_trans (≤-reflexive O (sym (bound_antiderivative s)))
        (≤_trans (antiderivative_in_mono v (bound s) xs inside y 0# hy
        (λ z lo hi. k z (≤_trans (low y_low) lo) (≤_trans hi one_nonneg)))
        (≤-reflexive O (antiderivative_zero v (bound s) xs inside)))

    -- e times what y is below 1 in size
    rest : {z : Carrier} → z ≤ 1# → 0# ≤ e * (1# + neg z)
    rest k = ≤-mul e_nonneg (sub_nonneg O k)

    pub antiderivative_bounded : abs O (eval R (antiderivative_in F v p) xs) ≤ e
    unfolding a
    antiderivative_bounded = go (≤-total 0# y)
      where
        from : {d x : Carrier} → 0# ≤ d → x + d ≡ e → x ≤ e
        from {d} k q = le_by O d k q

        go : (0# ≤ y) ⊎ (y ≤ 0#) → abs O a ≤ e
        go (inl hy) = abs_le O
            (from (add_nonneg O (rising (neg 1#) hy minus_sign) (rest y_high))
            (ring 3 R (λ e y a. a ⊞ ((e ⊠ y ⊞ ⊝ 𝟏 ⊠ a) ⊞ e ⊠ (𝟏 ⊟ y))) (λ e y a. e) refl e y a))
            (from (add_nonneg O (rising 1# hy plus_sign) (rest y_high))
            (ring 3 R (λ e y a. ⊝ a ⊞ ((e ⊠ y ⊞ 𝟏 ⊠ a) ⊞ e ⊠ (𝟏 ⊟ y))) (λ e y a. e) refl e y a))
        go (inr hy) = abs_le O
            (from (add_nonneg O (sub_nonneg O (falling 1# hy plus_sign)) (rest y_low))
            (ring 3 R (λ e y a. a ⊞ ((𝟎 ⊟ (e ⊠ y ⊞ 𝟏 ⊠ a)) ⊞ e ⊠ (𝟏 ⊟ ⊝ y))) (λ e y a. e) refl e y a))
            (from (add_nonneg O (sub_nonneg O (falling (neg 1#) hy minus_sign)) (rest y_low))
            (ring 3 R (λ e y a. ⊝ a ⊞ ((𝟎 ⊟ (e ⊠ y ⊞ ⊝ 𝟏 ⊠ a)) ⊞ e ⊠ (𝟏 ⊟ ⊝ y))) (λ e y a. e) refl e y a))
