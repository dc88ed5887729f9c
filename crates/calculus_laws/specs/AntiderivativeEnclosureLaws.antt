-- The antiderivative encloses: of a polynomial that is within the operand, the antiderivative is within the result.
use Rattle.std.specs.Prelude.{◌≡◌, Bool, true, false, not, eqb, ℤ, ◌-ℤ◌, ◌*ℤ◌}
use Rattle.std.proofs.Math.Path.{refl, ap, ap₂}
use Rattle.std.proofs.Common.{sym, ◌∙◌, arith, ne_eqb}
use mathlib.Core.List.{List, [], ◌∷◌, map}
use Prim.Native.Nat.{ℕ, zero, suc, ◌+◌, ◌*◌, ◌%◌, ◌≤◌, ◌<◌}
use Rattle.std.proofs.Math.IntN.{pos, nat_abs}
use Rattle.algebra.specs.RingLaws.{zero-*, *-zero}
use Rattle.algebra.specs.RingSolver.{𝟎, 𝟏, ◌⊞◌, ◌⊟◌, ◌⊠◌, ⊝◌, ring}
use Rattle.algebra.specs.Ordered.{abs}
use Rattle.algebra.specs.OrderedLaws.{abs_mul, abs_pos, abs_prod, *-mono}
use Rattle.algebra.specs.FieldLaws.{reciprocal_nonneg}
use Rattle.algebra.specs.IntegerRing.{ℤR}
use Rattle.algebra.proofs.Rational.{ℚ, ◌+ℚ◌, ◌*ℚ◌, negℚ, whole, ◌≤ℚ◌, reciprocal}
use Rattle.algebra.proofs.RationalRing.{ℚR}
use Rattle.algebra.proofs.RationalOrder.{ℚO}
use Rattle.algebra.proofs.RationalField.{ℚF}
use Rattle.algebra.proofs.RationalLaws.{whole-+, whole-*, whole_neg, whole_reciprocal}
use Rattle.polynomial.specs.Polynomial as P
use Rattle.polynomial.specs.Polynomial.{eval, monomial, exponent}
use Rattle.polynomial.proofs.PolynomialLaws.{eval_sum, eval_negation}
use Rattle.polynomial.proofs.BoxLaws.{monomial_le}
use Rattle.polynomial.specs.Antiderivative.{antiderivative_in}
use Rattle.polynomial.proofs.VariableAntiderivativeLaws.{exponent_raise, eval_antiderivative_sum}
use Rattle.polynomial.proofs.VariableAntiderivativeLaws.{eval_antiderivative_scale}
use Rattle.polynomial.proofs.VariableAntiderivativeLaws.{antiderivative_bounded}
use Rattle.numbers.specs.Fixed.{U}
use Rattle.numbers.specs.Division.{divided_up, nearest}
use Rattle.numbers.proofs.DivisionLaws.{divided_up_ok}
use Rattle.numbers.proofs.NearestLaws.{nearest_le, nearest_divides}
use Rattle.calculus.specs.Monomial.{index_of}
use Rattle.calculus.specs.Terms.{Terms, sum_over, sum_ℕ}
use Rattle.calculus.specs.Model.{Model, ◌/U, ◌-ℚ◌, distance, Point, InBox, polynomial, value, At}
use Rattle.calculus.specs.Operations.{is_inexact, growth_rounding, growth_swept, antiderivative}
use Rattle.calculus.specs.Functions.{ℚPolynomial, value_of}
use Rattle.calculus_laws.specs.SumLaws.{ℚ_addition, if_so, if_ℕ, if_ℚ}
use Rattle.calculus_laws.specs.GrowthLaws.{up, new_exponent, stays, new_exponent_pos, divided_sum, rounding_of}
use Rattle.calculus_laws.specs.GrowthLaws.{swept_of}
use Rattle.calculus_laws.specs.GrowthLaws.{growth_sum}
use Rattle.calculus_laws.specs.UnitLaws.{natural, natural-*, natural_≤, abs_whole, U_times}
use Rattle.calculus_laws.specs.UnitLaws.{U_times_≤, U_abs}
use Rattle.calculus_laws.specs.ValueLaws.{scaled_value, Near, near_at, term_value, sum_≤, abs_zero}
use Rattle.calculus_laws.specs.ChainLaws.{◌≤≤◌, ◌≡≤◌, ◌≤≡◌, equal}
open ℚR use {*-one}

-- ---- fractions over a whole number k from 1
module _ (k : ℕ) (h : 0 < k) where
  -- what is at most k n times 1 / k is at most n
  over : (y : ℚ) (m n : ℕ) → abs ℚO y ≤ℚ natural m → m ≤ k * n → abs ℚO (y *ℚ reciprocal k) ≤ℚ natural n
  over y m n b l = abs_mul ℚO y (reciprocal k) ∙ ap (λ r. abs ℚO y *ℚ r) (abs_pos ℚO nonneg)
      ≡≤ *-mono ℚO nonneg (b ≤≤ natural_≤ m (k * n) l ≤≡ natural-* k n)
      ≤≡ (ring 3 ℚR (λ k n r. k ⊠ n ⊠ r) (λ k n r. n ⊠ (k ⊠ r)) refl (natural k) (natural n) (reciprocal k)
      ∙ ap (λ z. natural n *ℚ z) (whole_reciprocal k h) ∙ *-one (natural n))
    where
      nonneg : natural 0 ≤ℚ reciprocal k
      nonneg = reciprocal_nonneg ℚF k h

  -- the difference to a whole number
  minus_whole : (c q : ℤ) → whole c *ℚ reciprocal k -ℚ whole q ≡ whole (c -ℤ q *ℤ pos k) *ℚ reciprocal k
  minus_whole c q = ap (λ z. whole c *ℚ reciprocal k -ℚ z)
      (sym (*-one (whole q)) ∙ ap (λ z. whole q *ℚ z) (sym (whole_reciprocal k h)))
      ∙ ring 4 ℚR (λ c q k r. c ⊠ r ⊟ q ⊠ (k ⊠ r)) (λ c q k r. (c ⊟ q ⊠ k) ⊠ r) refl
      (whole c) (whole q) (natural k) (reciprocal k)
      ∙ ap (λ z. z *ℚ reciprocal k) (sym (whole-+ c _ ∙ ap (λ z. whole c +ℚ z)
      (whole_neg (q *ℤ pos k) ∙ ap negℚ (whole-* q (pos k)))))

  -- rounding changes by at most 1, and by nothing where k divides
  left_le : (c : ℤ) → nat_abs (c -ℤ nearest c k *ℤ pos k) ≤ k * if_ℕ (not (eqb (nat_abs c % k) 0)) 1
  unfolding if_so
  left_le c = go (nat_abs c % k) refl
    where
      go : (r : ℕ) → nat_abs c % k ≡ r → nat_abs (c -ℤ nearest c k *ℤ pos k) ≤ k * if_ℕ (not (eqb r 0)) 1
      go zero e = let z : nat_abs (c -ℤ nearest c k *ℤ pos k) ≡ 0
          = ap (λ z. nat_abs (c -ℤ z)) (nearest_divides k h c e)
          ∙ ap nat_abs (ring 1 ℤR (λ c. c ⊟ c) (λ c. 𝟎) refl c) in
          rw z (omega arith)
      go (suc r) e = let l = nearest_le c k h in
          let one : if_ℕ (not (eqb (suc r) 0)) 1 ≡ 1
          = ap (λ b. if_ℕ (not b) 1) (ne_eqb (suc r) 0 (λ z. omega arith)) in
          rw one (omega arith)

  pub rounded_≤ : (c : ℤ) → abs ℚO (whole c *ℚ reciprocal k -ℚ whole (nearest c k))
      ≤ℚ natural (if_ℕ (not (eqb (nat_abs c % k) 0)) 1)
  rounded_≤ c = ap (abs ℚO) (minus_whole c (nearest c k))
      ≡≤ over _ _ _ (equal (abs_whole (c -ℤ nearest c k *ℤ pos k))) (left_le c)

  pub swept_≤ : (c : ℤ) → abs ℚO (whole c *ℚ reciprocal k) ≤ℚ natural (divided_up (nat_abs c) k)
  swept_≤ c = over _ _ _ (equal (abs_whole c)) (divided_up_ok (nat_abs c) k h)

-- ---- sums that are near each other term by term
sums_≤ : (g h : List ℕ → ℤ → ℚ) (m : List ℕ → ℤ → ℕ)
    → ((k : List ℕ) (c : ℤ) → abs ℚO (g k c -ℚ h k c) ≤ℚ natural (m k c)) → (p : Terms)
    → abs ℚO (sum_over ◌+ℚ◌ (natural 0) g p -ℚ sum_over ◌+ℚ◌ (natural 0) h p) ≤ℚ natural (sum_ℕ m p)
unfolding sum_over
sums_≤ g h m l [] = ap (abs ℚO) (ring 0 ℚR (𝟎 ⊟ 𝟎) 𝟎 refl) ≡≤ abs_zero
sums_≤ g h m l (t ∷ p) = ap (abs ℚO)
    (ring 4 ℚR (λ a b c d. a ⊞ b ⊟ (c ⊞ d)) (λ a b c d. (a ⊟ c) ⊞ (b ⊟ d)) refl _ _ _ _)
    ≡≤ sum_≤ _ _ _ _ (l t.exponents t.coefficient) (sums_≤ g h m l p)

module _ (d i : ℕ) {n : ℕ} {x : Point} (b : InBox n x) where
  -- the antiderivative of a term, exactly
  abbrev exact_term : List ℕ → ℤ → ℚ
  exact_term k c = whole c *ℚ reciprocal (new_exponent d i k) *ℚ monomial ℚR (up d i k) x

  -- and as it is kept
  abbrev kept_term : List ℕ → ℤ → ℚ
  kept_term k c = if_ℚ (stays d i k) (term_value x (up d i k) (nearest c (new_exponent d i k)))

  term_near : (k : List ℕ) (c : ℤ)
      → abs ℚO (exact_term k c -ℚ kept_term k c) ≤ℚ natural (rounding_of d i k c + swept_of d i k c)
  unfolding if_so is_inexact
  term_near k c = go (stays d i k)
    where
      m : ℚ
      m = monomial ℚR (up d i k) x

      r : ℚ
      r = reciprocal (new_exponent d i k)

      q : ℤ
      q = nearest c (new_exponent d i k)

      -- times the monomial, which is at most 1 in size
      times : (y : ℚ) (j : ℕ) → abs ℚO y ≤ℚ natural j → abs ℚO (y *ℚ m) ≤ℚ natural j
      times y j l = abs_prod ℚO y m l (monomial_le ℚO (up d i k) b) ≤≡ *-one (natural j)

      go : (s : Bool)
          → abs ℚO (exact_term k c -ℚ if_ℚ s (term_value x (up d i k) (nearest c (new_exponent d i k))))
          ≤ℚ natural (if_ℕ s (if_ℕ (not (eqb (nat_abs c % new_exponent d i k) 0)) 1)
          + if_ℕ (not s) (divided_up (nat_abs c) (new_exponent d i k)))
      go true = ap (abs ℚO) (ring 4 ℚR (λ c r m q. c ⊠ r ⊠ m ⊟ q ⊠ m) (λ c r m q. (c ⊠ r ⊟ q) ⊠ m) refl
          (whole c) r m (whole q))
          ≡≤ times _ _ (rounded_≤ (new_exponent d i k) (new_exponent_pos d i k) c)
          ≤≡ ap natural (let z : (a : ℕ) → a ≡ a + 0 = λ a. omega arith in z _)
      go false = ap (abs ℚO) (ring 3 ℚR (λ c r m. c ⊠ r ⊠ m ⊟ 𝟎) (λ c r m. c ⊠ r ⊠ m) refl (whole c) r m)
          ≡≤ times _ _ (swept_≤ (new_exponent d i k) (new_exponent_pos d i k) c)
          ≤≡ ap natural (let z : (a : ℕ) → a ≡ 0 + a = λ a. omega arith in z _)

  -- what is kept is near the antiderivative of the model's polynomial
  exact_sum : Model → ℚ
  exact_sum f = sum_over ◌+ℚ◌ (natural 0) exact_term f.terms

  kept_near : (f : Model) → abs ℚO (exact_sum f -ℚ scaled_value (antiderivative d i f).terms x)
      ≤ℚ natural (growth_rounding d i f + growth_swept d i f)
  unfolding scaled_value exact_sum
  kept_near f = ap (λ v. abs ℚO (exact_sum f -ℚ v))
      (divided_sum d i ℚ_addition (term_value x) (λ k. zero-* ℚR (monomial ℚR k x)) f)
      ≡≤ sums_≤ exact_term kept_term _ term_near f.terms
      ≤≡ ap natural (sym (growth_sum d i f))

  -- U times the antiderivative of its polynomial
  U_terms : (p : Terms) → natural U *ℚ eval ℚR (antiderivative_in ℚF (index_of i)
      (map (λ t. record { coefficient = t.coefficient /U; exponents = t.exponents }) p)) x
      ≡ sum_over ◌+ℚ◌ (natural 0) exact_term p
  unfolding antiderivative_in eval sum_over
  U_terms [] = *-zero ℚR (natural U)
  U_terms (t ∷ p) = ring 5 ℚR (λ u c r m v. u ⊠ (c ⊠ r ⊠ m ⊞ v)) (λ u c r m v. u ⊠ c ⊠ r ⊠ m ⊞ u ⊠ v) refl (natural U)
      (t.coefficient /U) (reciprocal (suc (exponent (index_of i) t.exponents)))
      (monomial ℚR (up d i t.exponents) x) _
      ∙ ap₂ ◌+ℚ◌ (ap₂ (λ c r. c *ℚ reciprocal r *ℚ monomial ℚR (up d i t.exponents) x) (U_times t.coefficient)
      (sym (exponent_raise (index_of i) t.exponents))) (U_terms p)

  U_exact : (f : Model) → natural U *ℚ eval ℚR (antiderivative_in ℚF (index_of i) (polynomial f)) x ≡ exact_sum f
  unfolding polynomial exact_sum
  U_exact f = U_terms f.terms

  -- ---- THE ENCLOSURE
  pub antiderivative_near : index_of i < n → (f : Model) (q : ℚPolynomial)
      → ((y : Point) → InBox n y → Near f y (value_of q y))
      → Near (antiderivative d i f) x (value_of (antiderivative_in ℚF (index_of i) q) x)
  unfolding Near
  antiderivative_near l f q h = ap (abs ℚO) (ring 3 ℚR (λ a b v. a ⊟ v) (λ a b v. (a ⊟ b) ⊞ (b ⊟ v)) refl
      (natural U *ℚ value_of (A q) x) (exact_sum f) (scaled_value (antiderivative d i f).terms x))
      ≡≤ sum_≤ _ _ _ _ carried (kept_near f)
      ≤≡ ap natural (unfold antiderivative in sums)
    where
      -- the antiderivative of a polynomial
      A : ℚPolynomial → ℚPolynomial
      A = antiderivative_in ℚF (index_of i)

      sums : f.radius + (growth_rounding d i f + growth_swept d i f)
          ≡ f.radius + growth_rounding d i f + growth_swept d i f
      sums = omega arith

      difference : ℚPolynomial
      difference = P.sum ℚR q (P.negation ℚR (polynomial f))

      at : (y : Point) → InBox n y → abs ℚO (eval ℚR difference y) ≤ℚ pos f.radius /U
      at y hy = ap (abs ℚO) (eval_sum ℚR q (P.negation ℚR (polynomial f)) y
          ∙ ap (λ z. eval ℚR q y +ℚ z) (eval_negation ℚR (polynomial f) y))
          ≡≤ (unfold At distance value value_of in near_at f y (value_of q y) (h y hy))

      apart : natural U *ℚ eval ℚR (A difference) x ≡ natural U *ℚ value_of (A q) x -ℚ exact_sum f
      apart = unfold value_of in (ap (λ z. natural U *ℚ z)
          (eval_antiderivative_sum ℚF (index_of i) q (P.negation ℚR (polynomial f)) x
          ∙ ap (λ z. eval ℚR (A q) x +ℚ z)
          (eval_antiderivative_scale ℚF (index_of i) (negℚ (natural 1)) (polynomial f) x))
          ∙ ring 3 ℚR (λ u a p. u ⊠ (a ⊞ ⊝ 𝟏 ⊠ p)) (λ u a p. u ⊠ a ⊟ u ⊠ p) refl
          (natural U) (eval ℚR (A q) x) (eval ℚR (A (polynomial f)) x)
          ∙ ap (λ z. natural U *ℚ eval ℚR (A q) x -ℚ z) (U_exact f))

      carried : abs ℚO (natural U *ℚ value_of (A q) x -ℚ exact_sum f) ≤ℚ natural f.radius
      carried = ap (abs ℚO) (sym apart) ∙ U_abs _
          ≡≤ U_times_≤ (antiderivative_bounded ℚF (index_of i) difference b l (pos f.radius /U) at)
          ≤≡ U_times (pos f.radius)
