-- q and r are the exact integral of a model's polynomial; the ends made of them enclose the integral of what is within
-- the model, and lie inside those of the term-by-term rule.
use Rattle.std.specs.Prelude.{◌≡◌, Bool, not, T, eqb, neg_ℤ, ◌+ℤ◌, ◌-ℤ◌, ◌*ℤ◌, ◌≤ℤ◌}
use Rattle.std.proofs.Math.Path.{refl, sym, ap, ap₂, subst}
use Rattle.std.proofs.Common.{◌∙◌, eqb→eq, leb→le, T_not}
use Rattle.std.proofs.Math.Bool.{true, false}
use mathlib.Core.List.{List, [], ◌∷◌}
use Prim.Native.Nat.{ℕ, zero, suc, ◌+◌, ◌*◌, ◌/◌, ◌^◌, ◌≤◌, ◌<◌}
use native.Mathlib.Omega.{arith}
use Rattle.std.proofs.Math.IntN.{ℤ, pos}
use Rattle.algebra.specs.Integer.{is, is_eq, is_add, is_mul, is_nat, plus, minus}
use Rattle.algebra.specs.IntegerRing.{ℤR, ℤO, of_le, le_of}
use Rattle.algebra.specs.RingLaws.{*-zero}
use Rattle.algebra.specs.RingSolver.{◌⊞◌, ◌⊠◌, ring}
use Rattle.algebra.specs.OrderedLaws.{*-mono}
use Rattle.algebra.specs.FieldLaws.{reciprocal_nonneg}
use Rattle.algebra.proofs.Rational.{ℚ, ◌+ℚ◌, ◌*ℚ◌, whole, ◌≤ℚ◌, reciprocal}
use Rattle.algebra.proofs.RationalRing.{ℚR}
use Rattle.algebra.proofs.RationalOrder.{ℚO}
use Rattle.algebra.proofs.RationalField.{ℚF}
use Rattle.algebra.proofs.RationalLaws.{whole-+, whole-*, whole_≤, ≤-whole, nat_whole}
use Rattle.polynomial.specs.Integral as I
use Rattle.polynomial.specs.Integral.{all_even, divisor, moment}
use Rattle.polynomial.proofs.IntegralLaws.{divisor_pos}
use Rattle.numbers.specs.Division.{floor, ceiling, remainder}
use Rattle.numbers.proofs.DivisionLaws.{floor_le, division, remainder_lt}
use Rattle.calculus.specs.Terms.{Terms, every, sum_over}
use Rattle.calculus.specs.Model.{Model, Point, InBox, most_degree, fits, sound}
use Rattle.calculus.specs.Operations.{common_denominator, exact_vars, has_exact, integral_parts, mixed_part}
use Rattle.calculus.specs.Operations.{one_if_any, integral_sum, Ends, exact_ends, integral, term_by_term}
use Rattle.calculus.specs.Operations.{zero_mixed, exact_part}
use Rattle.calculus.specs.Functions.{ℚPolynomial, value_of, exact_integral, Lies}
use Rattle.calculus_laws.specs.TestLaws.{and_left, and_right}
use Rattle.calculus_laws.specs.SumLaws.{ℤ_addition, if_ℤ, if_so, sum_select}
use Rattle.calculus_laws.specs.TermsLaws.{every_implies}
use Rattle.calculus_laws.specs.FitsLaws.{fits_by, fits_length, fits_degree}
use Rattle.calculus_laws.specs.SoundLaws.{sound_parts}
use Rattle.calculus_laws.specs.UnitLaws.{natural, natural-*, natural_nonneg}
use Rattle.calculus_laws.specs.ValueLaws.{Near}
use Rattle.calculus_laws.specs.ChainLaws.{◌≡≤◌, ◌≤≡◌}
use Rattle.calculus_laws.specs.IntegralEndsLaws.{whole_polynomial, polynomial_integral, term_moment, moment_is}
use Rattle.calculus_laws.specs.IntegralEndsLaws.{down_below, up_above, widened_ends, widened_encloses}
use Rattle.calculus_laws.specs.IntegralEndsLaws.{term_by_term_encloses}
use Rattle.calculus_laws.specs.DenominatorLaws.{denominator_serves}
open ℚR use {*-one, *-assoc, *-comm}

-- ---- the parts
-- D is D's own multiple of 1 / D
denominator_inverse : natural common_denominator *ℚ reciprocal common_denominator ≡ natural 1
unfolding common_denominator
denominator_inverse = ap (λ n. n *ℚ reciprocal common_denominator) (sym (nat_whole common_denominator))
    ∙ ℚF.nat_reciprocal common_denominator (omega arith)

module _ (n : ℕ) (few : n ≤ exact_vars) where
  -- the parts of a term
  parts_of : List ℕ → ℤ → ℤ
  parts_of k c = if_ℤ (all_even n k) (c *ℤ pos (2 ^ n * (common_denominator / divisor n k)))

  -- they are its integral times D
  term_parts : (k : List ℕ) (c : ℤ) → T (fits n most_degree k)
      → whole (parts_of k c) ≡ natural common_denominator *ℚ (whole c *ℚ moment ℚF n k)
  unfolding parts_of term_moment if_so
  term_parts k c t = go (all_even n k) (denominator_serves n k few (fits_degree n most_degree k t))
      ∙ ap (λ z. natural common_denominator *ℚ z) (sym (moment_is n k c))
    where
      v : ℕ
      v = divisor n k

      w : ℕ
      w = common_denominator / divisor n k

      go : (b : Bool) → (T b → v * w ≡ common_denominator)
          → whole (if_ℤ b (c *ℤ pos (2 ^ n * w))) ≡ natural common_denominator *ℚ term_moment n k c b
      go true e = whole-* c (pos (2 ^ n * w)) ∙ ap (λ z. whole c *ℚ z) (natural-* (2 ^ n) w ∙ sym (*-one _)
          ∙ ap (λ z. natural (2 ^ n) *ℚ natural w *ℚ z) (sym inverse))
          ∙ ring 5 ℚR (λ c t w v u. c ⊠ (t ⊠ w ⊠ (v ⊠ u))) (λ c t w v u. v ⊠ w ⊠ (c ⊠ (t ⊠ u))) refl
          (whole c) (natural (2 ^ n)) (natural w) (natural v) (reciprocal v)
          ∙ ap (λ z. z *ℚ (whole c *ℚ (natural (2 ^ n) *ℚ reciprocal v))) (sym (natural-* v w) ∙ ap natural (e tt))
        where
          inverse : natural v *ℚ reciprocal v ≡ natural 1
          inverse = ap (λ z. z *ℚ reciprocal v) (sym (nat_whole v)) ∙ ℚF.nat_reciprocal v (divisor_pos n k)
      go false e = sym (ap (λ z. natural common_denominator *ℚ z) (*-zero ℚR (whole c)) ∙ *-zero ℚR _)

  sum_parts : (p : Terms) → T (every (λ k c. fits n most_degree k) p)
      → whole (sum_over ◌+ℤ◌ (pos 0) parts_of p)
      ≡ natural common_denominator *ℚ I.integral ℚF n (whole_polynomial p)
  unfolding sum_over every whole_polynomial I.integral
  sum_parts [] t = sym (*-zero ℚR (natural common_denominator))
  sum_parts (u ∷ p) t = whole-+ (parts_of u.exponents u.coefficient) _
      ∙ ap₂ ◌+ℚ◌ (term_parts u.exponents u.coefficient (and_left (fits n most_degree u.exponents) _ t))
      (sum_parts p (and_right (fits n most_degree u.exponents) _ t))
      ∙ ring 3 ℚR (λ d a b. d ⊠ a ⊞ d ⊠ b) (λ d a b. d ⊠ (a ⊞ b)) refl (natural common_denominator) _ _

-- ---- a model whose terms it serves
pub record Served (m : Model) : Type 0 where
  pub few : m.vars ≤ exact_vars
  pub fitting : T (every (λ k c. fits m.vars most_degree k) m.terms)

-- a sound model in up to four variables is one
pub sound_served : (d : ℕ) (m : Model) → d ≤ most_degree → T (sound d m) → T (has_exact m.vars) → Served m
unfolding has_exact
sound_served d m h t e = record {
  few = leb→le m.vars exact_vars e;
  fitting = every_implies (λ k c. fits m.vars d k) (λ k c. fits m.vars most_degree k)
      (λ k c f. let l = fits_degree m.vars d k f in
      fits_by m.vars most_degree k (fits_length m.vars d k f) (omega arith)) m.terms
      (sound_parts d m t).0.fitting;
}

module _ (m : Model) (s : Served m) where
  abbrev D : ℕ
  D = common_denominator

  abbrev q : ℤ
  q = floor (integral_parts m) common_denominator

  abbrev r : ℕ
  r = remainder (integral_parts m) common_denominator

  abbrev E : ℚ
  E = polynomial_integral m

  parts_are : whole (integral_parts m) ≡ natural D *ℚ E
  unfolding integral_parts parts_of
  parts_are = ap whole (sum_select ℤ_addition _ (λ k c. all_even m.vars k) m.terms)
      ∙ sum_parts m.vars s.few m.terms s.fitting

  over_D : (z : ℚ) → natural D *ℚ z *ℚ reciprocal D ≡ z
  over_D z = ring 3 ℚR (λ d z u. d ⊠ z ⊠ u) (λ d z u. z ⊠ (d ⊠ u)) refl (natural D) z (reciprocal D)
      ∙ ap (λ w. z *ℚ w) denominator_inverse ∙ *-one z

  D_pos : 0 < D
  unfolding common_denominator
  D_pos = omega arith

  -- comparing with E is comparing with the parts
  below_E : (l : ℤ) → (l *ℤ pos D) ≤ℤ integral_parts m → whole l ≤ℚ E
  below_E l h = sym (over_D (whole l))
      ≡≤ *-mono ℚO (reciprocal_nonneg ℚF D D_pos)
      (*-comm _ _ ∙ sym (whole-* l (pos D)) ≡≤ whole_≤ h ≤≡ parts_are)
      ≤≡ over_D E

  above_E : (l : ℤ) → integral_parts m ≤ℤ (l *ℤ pos D) → E ≤ℚ whole l
  above_E l h = sym (over_D E)
      ≡≤ *-mono ℚO (reciprocal_nonneg ℚF D D_pos)
      (sym parts_are ≡≤ whole_≤ h ≤≡ (whole-* l (pos D) ∙ *-comm _ _))
      ≤≡ over_D (whole l)

  parts_above : (l : ℤ) → whole l ≤ℚ E → (l *ℤ pos D) ≤ℤ integral_parts m
  parts_above l h = ≤-whole _ _ (whole-* l (pos D) ≡≤ *-mono ℚO (natural_nonneg D) h ≤≡ (*-comm _ _ ∙ sym parts_are))

  parts_below : (l : ℤ) → E ≤ℚ whole l → integral_parts m ≤ℤ (l *ℤ pos D)
  parts_below l h = ≤-whole _ _ (parts_are ∙ *-comm _ _ ≡≤ *-mono ℚO (natural_nonneg D) h ≤≡ sym (whole-* l (pos D)))

  -- THEOREM: q + r / D is the integral of the model's polynomial, in units; r is from 0 to D - 1
  pub exact_is : whole (mixed_part m).quotient +ℚ natural (mixed_part m).remainder *ℚ reciprocal common_denominator
      ≡ polynomial_integral m
  unfolding mixed_part
  exact_is = ap (λ z. z +ℚ natural r *ℚ reciprocal D) (sym (over_D (whole q)))
      ∙ ring 4 ℚR (λ d q u r. d ⊠ q ⊠ u ⊞ r ⊠ u) (λ d q u r. (q ⊠ d ⊞ r) ⊠ u) refl
      (natural D) (whole q) (reciprocal D) (natural r)
      ∙ ap (λ z. z *ℚ reciprocal D) (sum ∙ parts_are) ∙ over_D E
    where
      split : q *ℤ pos D +ℤ pos r ≡ integral_parts m
      split = is_eq (is_add (is_mul (is q) (is_nat D)) (is_nat r)) (is (integral_parts m))
          (omega (arith, division (integral_parts m) D D_pos))

      sum : whole q *ℚ natural D +ℚ natural r ≡ whole (integral_parts m)
      sum = ap (λ z. z +ℚ natural r) (sym (whole-* q (pos D))) ∙ sym (whole-+ (q *ℤ pos D) (pos r)) ∙ ap whole split

  pub remainder_small : (mixed_part m).remainder < common_denominator
  unfolding mixed_part
  remainder_small = remainder_lt (integral_parts m) D D_pos

  -- ---- the ends
  one_more : ℤ
  one_more = q +ℤ pos (one_if_any r)

  covered : integral_parts m ≤ℤ (one_more *ℤ pos D)
  unfolding one_more one_if_any common_denominator
  covered = go (eqb r 0) (eqb→eq r 0)
    where
      go : (b : Bool) → (T b → r ≡ 0)
          → integral_parts m ≤ℤ ((q +ℤ pos (elim b as (λ b. ℕ) [ true ↦ 0 | false ↦ 1 ])) *ℤ pos D)
      go true e = of_le (is (integral_parts m)) (is_mul (is_add (is q) (is_nat 0)) (is_nat D))
          (omega (arith, e tt, division (integral_parts m) D D_pos))
      go false e = of_le (is (integral_parts m)) (is_mul (is_add (is q) (is_nat 1)) (is_nat D))
          (omega (arith, division (integral_parts m) D D_pos, remainder_lt (integral_parts m) D D_pos))

  ends_are : exact_ends m ≡ widened_ends m q one_more
  unfolding exact_ends mixed_part widened_ends one_more
  ends_are = ap (λ h. record { low = q -ℤ pos (2 ^ m.vars * m.radius); high = h })
      (ring 3 ℤR (λ q w o. q ⊞ w ⊞ o) (λ q w o. q ⊞ o ⊞ w) refl
      q (pos (2 ^ m.vars * m.radius)) (pos (one_if_any r)))

  exact_encloses : (p : ℚPolynomial) → ((x : Point) → InBox m.vars x → Near m x (value_of p x))
      → Lies (exact_integral m.vars p) (exact_ends m)
  exact_encloses p h = subst (Lies (exact_integral m.vars p)) (sym ends_are)
      (widened_encloses m p h q one_more (below_E q (floor_le (integral_parts m) D D_pos)) (above_E one_more covered))

  -- THEOREM: they lie inside the ends of the term-by-term rule
  down_le : integral_sum floor m ≤ℤ q
  unfolding common_denominator
  down_le = of_le (is (integral_sum floor m)) (is q) (omega (
    arith,
    le_of (is_mul (is (integral_sum floor m)) (is_nat D)) (is (integral_parts m))
        (parts_above (integral_sum floor m) (down_below m)),
    division (integral_parts m) D D_pos,
    remainder_lt (integral_parts m) D D_pos,
  ))

  any : (x : ℕ) → T (not (eqb x 0)) → 1 ≤ x
  any zero t = absurd t
  any (suc x) t = omega arith

  up_ge : one_more ≤ℤ integral_sum ceiling m
  unfolding one_more one_if_any common_denominator
  up_ge = go (eqb r 0) (any r)
    where
      up : ℤ
      up = integral_sum ceiling m

      above : plus (integral_parts m) + minus up * D ≤ plus up * D + minus (integral_parts m)
      above = omega (arith, le_of (is (integral_parts m)) (is_mul (is up) (is_nat D)) (parts_below up (up_above m)))

      go : (b : Bool) → (T (not b) → 1 ≤ r)
          → (q +ℤ pos (elim b as (λ b. ℕ) [ true ↦ 0 | false ↦ 1 ])) ≤ℤ up
      go true e = of_le (is_add (is q) (is_nat 0)) (is up) (omega (
        arith,
        above,
        division (integral_parts m) D D_pos,
      ))
      go false e = of_le (is_add (is q) (is_nat 1)) (is up) (omega (
        arith,
        above,
        division (integral_parts m) D D_pos,
        e tt,
      ))

  exact_inside : ((term_by_term m).low ≤ℤ (exact_ends m).low) × ((exact_ends m).high ≤ℤ (term_by_term m).high)
  unfolding term_by_term widened_ends
  exact_inside = subst
      (λ (e : Ends). ((term_by_term m).low ≤ℤ e.low) × (e.high ≤ℤ (term_by_term m).high)) (sym ends_are)
      (ℤO.≤-add (neg_ℤ (pos (2 ^ m.vars * m.radius))) down_le, ℤO.≤-add (pos (2 ^ m.vars * m.radius)) up_ge)

-- the two cases of a test
by_test : {A : Type 0} (P : A → Type 0) (b : Bool) (x y : A) → (T b → P x) → (T (not b) → P y)
    → P (elim b as (λ b. A) [ true ↦ x | false ↦ y ])
by_test P true x y f g = f tt
by_test P false x y f g = g tt

-- ---- the ends of any model: these, or above four variables those of the term-by-term rule
pub by_exact : (P : Ends → Type 0) (m : Model) → (T (has_exact m.vars) → P (exact_ends m))
    → (T (not (has_exact m.vars)) → P (term_by_term m)) → P (integral m)
unfolding integral
by_exact P m f g = by_test P (has_exact m.vars) _ _ f g

-- THEOREM: they enclose the integral of what is within the model
pub integral_encloses : (m : Model) → (T (has_exact m.vars) → Served m) → (p : ℚPolynomial)
    → ((x : Point) → InBox m.vars x → Near m x (value_of p x)) → Lies (exact_integral m.vars p) (integral m)
integral_encloses m s p h = by_exact (Lies (exact_integral m.vars p)) m
    (λ e. exact_encloses m (s e) p h) (λ e. term_by_term_encloses m p h)

-- THEOREM: and lie inside those of the term-by-term rule
pub integral_inside : (m : Model) → (T (has_exact m.vars) → Served m)
    → ((term_by_term m).low ≤ℤ (integral m).low) × ((integral m).high ≤ℤ (term_by_term m).high)
integral_inside m s = by_exact (λ e. ((term_by_term m).low ≤ℤ e.low) × (e.high ≤ℤ (term_by_term m).high)) m
    (λ e. exact_inside m (s e)) (λ e. (ℤO.≤-refl _, ℤO.≤-refl _))

-- ---- q and r: of a model in up to four variables; above, 0
pub exact_known : (m : Model) → T (has_exact m.vars) → exact_part m ≡ mixed_part m
unfolding exact_part
exact_known m t = by_test (λ x. x ≡ mixed_part m) (has_exact m.vars) _ _ (λ e. refl)
    (λ e. absurd (T_not (has_exact m.vars) e t))

pub exact_none : (m : Model) → T (not (has_exact m.vars)) → exact_part m ≡ zero_mixed
unfolding exact_part
exact_none m t = by_test (λ x. x ≡ zero_mixed) (has_exact m.vars) _ _
    (λ e. absurd (T_not (has_exact m.vars) t e)) (λ e. refl)
