-- How many parts an integral has, and how large its quotient is.
use Rattle.std.specs.Prelude.{Bool, ◌≡◌, refl, List, [], ◌∷◌, eqb, nat_abs, neg_ℤ, ◌+ℤ◌, ◌-ℤ◌, ◌*ℤ◌}
use Rattle.std.proofs.Math.Bool.{true, false}
use Rattle.std.proofs.Common.{sym, subst, ne_eqb, le-leb, lit<}
use Rattle.std.proofs.Math.Path.{ap}
use Prim.Native.Nat.{ℕ, ◌+◌, ◌*◌, ◌/◌, ◌^◌, ◌≤◌, ◌<◌}
use native.Mathlib.Omega.{arith}
use Rattle.std.proofs.Math.Nat as NatL
use Rattle.std.proofs.lemmas.Bool.{lt-leb}
use Rattle.std.proofs.Math.IntN.{ℤ, pos}
use Rattle.algebra.specs.Integer.{is, nat_abs_mul, natAbs_bound, natAbs_apart, natAbs_add, natAbs_neg}
use Rattle.polynomial.specs.Integral.{all_even, divisor}
use Rattle.numbers.specs.Computing.{numbers}
use Rattle.numbers.specs.Division.{floor, ceiling, remainder}
use Rattle.numbers.proofs.DivisionLaws.{division, remainder_lt}
use Rattle.numbers.specs.Fixed.{span_limit}
use Rattle.calculus.specs.Terms.{Terms, select, sum_over, sum_ℕ, size}
use Rattle.calculus.specs.Model.{Model, span}
use Rattle.calculus.specs.Operations.{common_denominator, has_exact, integral_parts, mixed_part, zero_mixed, exact_part}
use Rattle.calculus_laws.specs.ExactIntegralLaws.{by_exact}
use Rattle.model_integral.specs.Rounding.{rule}
use Rattle.model_integral.specs.IntegralSizeLaws.{integral_within}
use Rattle.calculus.specs.Operations.{Ends, Mixed, integral_sum, one_if_any, exact_ends, term_by_term, integral}
use Rattle.calculus.specs.Operations.{Integral, whole_integral}
use Rattle.model_types.specs.ModelStructLaws.{sum_abs, sum_select_le}
use Rattle.model_integral.specs.IntegralParts.{most_parts, exact_integral}

-- ---- the denominator and the span, by their numbers
pub denominator_pos : 0 < common_denominator
unfolding common_denominator
denominator_pos = lit< tt

-- twice the most parts fit a signed word
pub parts_fit : 2 * most_parts < 2 ^ 63
unfolding numbers most_parts common_denominator
parts_fit = lit< tt

-- ---- the volume of the box
pub volume_le : (n : ℕ) → n ≤ 4 → 2 ^ n ≤ 16
volume_le n l = NatL.pow-le-pow_right {n = 2} (lit< tt) {i = n} {j = 4} l

-- ---- the parts
-- of one term
abbrev pub term_parts : (n : ℕ) → List ℕ → ℤ → ℤ
term_parts n k c = c *ℤ pos (2 ^ n * (common_denominator / divisor n k))

term_within : (n : ℕ) (k : List ℕ) (c : ℤ) → nat_abs (term_parts n k c) ≤ nat_abs c * (2 ^ n * common_denominator)
term_within n k c = omega (
  arith,
  nat_abs_mul c (pos (2 ^ n * (common_denominator / divisor n k))),
  NatL.mul-le-mul_left (nat_abs c) (NatL.mul-le-mul_left (2 ^ n) (NatL.div-le_self common_denominator (divisor n k))),
)

pub terms_within : (n : ℕ) (p : Terms)
    → sum_ℕ (λ k c. nat_abs (term_parts n k c)) p ≤ size p * (2 ^ n * common_denominator)
unfolding sum_over size
terms_within n [] = omega arith
terms_within n (t ∷ p) = omega (arith, term_within n t.exponents t.coefficient, terms_within n p)

-- of all
pub parts_within : (m : Model) → nat_abs (integral_parts m) ≤ size m.terms * (2 ^ m.vars * common_denominator)
unfolding integral_parts
parts_within m = omega (
  arith,
  sum_abs (λ k c. nat_abs (term_parts m.vars k c)) (term_parts m.vars) (λ k c. omega arith)
      (select (λ k c. all_even m.vars k) m.terms),
  sum_select_le (λ k c. nat_abs (term_parts m.vars k c)) (λ k c. all_even m.vars k) m.terms,
  terms_within m.vars m.terms,
)

-- a size within the span, times the volume and the denominator
pub scaled_within : (n a : ℕ) → n ≤ 4 → a ≤ span_limit → a * (2 ^ n * common_denominator) ≤ most_parts
unfolding most_parts
scaled_within n a l h = NatL.mul-le-mul h (NatL.mul-le-mul_right common_denominator (volume_le n l))

-- ---- the quotient
pub floor_within : (z : ℤ) (a : ℕ) → nat_abs z ≤ a * common_denominator → nat_abs (floor z common_denominator) ≤ a
unfolding common_denominator
floor_within z a h =
    let d = division z common_denominator denominator_pos in
    let r = remainder_lt z common_denominator denominator_pos in
    let p = natAbs_apart (is z) in
    natAbs_bound (is (floor z common_denominator)) a (omega arith) (omega arith)

-- times the denominator it is within the most parts
pub whole_within : (z : ℤ) → nat_abs z ≤ most_parts
    → nat_abs (floor z common_denominator) * common_denominator ≤ most_parts
unfolding most_parts common_denominator
whole_within z h = omega (arith, floor_within z (span_limit * 16) (omega arith))

-- with the radius it is within the span
pub quotient_within : (m : Model)
    → nat_abs (floor (integral_parts m) common_denominator) + 2 ^ m.vars * m.radius ≤ span m * 2 ^ m.vars
unfolding span
quotient_within m = omega (
  arith,
  floor_within (integral_parts m) (size m.terms * 2 ^ m.vars)
      (omega (arith, parts_within m, NatL.mul_assoc (size m.terms) (2 ^ m.vars) common_denominator)),
)

-- ---- whether there is a remainder
pub none_above : 0 ≡ one_if_any 0
unfolding one_if_any
none_above = refl

pub some_above : (r : ℕ) → (r ≡ 0 → ⊥) → 1 ≡ one_if_any r
unfolding one_if_any
some_above r h = subst (λ b. ◌≡◌ {A = ℕ} 1 (elim b as (λ b. ℕ) [ true ↦ 0 | false ↦ 1 ])) (sym (ne_eqb r 0 h)) refl

pub one_at_most : (r : ℕ) → one_if_any r ≤ 1
unfolding one_if_any
one_at_most r = go (eqb r 0)
  where
    go : (b : Bool) → elim b as (λ b. ℕ) [ true ↦ 0 | false ↦ 1 ] ≤ 1
    go true = omega arith
    go false = omega arith

-- ---- by the number of variables
module _ (m : Model) where
  chosen : Bool → Integral
  chosen b = record {
    ends = elim b as (λ b. Ends) [ true ↦ exact_ends m | false ↦ term_by_term m ];
    exact = elim b as (λ b. Mixed) [ true ↦ mixed_part m | false ↦ zero_mixed ];
  }

  pub whole_exact : m.vars ≤ 4 → exact_integral m ≡ whole_integral m
  unfolding whole_integral exact_integral exact_part integral has_exact chosen
  whole_exact h = ap chosen (sym (le-leb m.vars 4 h))

  pub whole_terms : 4 < m.vars → record { ends = term_by_term m; exact = zero_mixed } ≡ whole_integral m
  unfolding whole_integral exact_part integral has_exact chosen
  whole_terms h = ap chosen (sym (lt-leb m.vars 4 h))

-- ---- how large the ends are, and the quotient
natAbs_sub : (z : ℤ) (n : ℕ) → nat_abs (z -ℤ pos n) ≤ nat_abs z + n
natAbs_sub z n = omega (arith, natAbs_add z (neg_ℤ (pos n)), natAbs_neg (pos n))

pub ends_within : (m : Model)
    → (nat_abs (integral m).low ≤ span m * 2 ^ m.vars) × (nat_abs (integral m).high ≤ span m * 2 ^ m.vars + 1)
ends_within m = by_exact
    (λ e. (nat_abs e.low ≤ span m * 2 ^ m.vars) × (nat_abs e.high ≤ span m * 2 ^ m.vars + 1)) m
    (λ t. exact) (λ t. rounded)
  where
    exact : (nat_abs (exact_ends m).low ≤ span m * 2 ^ m.vars)
        × (nat_abs (exact_ends m).high ≤ span m * 2 ^ m.vars + 1)
    exact = unfold exact_ends mixed_part in
        (let q : ℤ = floor (integral_parts m) common_denominator in
        let w : ℕ = 2 ^ m.vars * m.radius in
        let r : ℕ = remainder (integral_parts m) common_denominator in
        let b = quotient_within m in (
          omega (arith, b, natAbs_sub q w),
          omega (
            arith,
            b,
            natAbs_add q (pos w),
            natAbs_add (q +ℤ pos w) (pos (one_if_any r)),
            one_at_most r,
          ),
        ))

    rounded : (nat_abs (term_by_term m).low ≤ span m * 2 ^ m.vars)
        × (nat_abs (term_by_term m).high ≤ span m * 2 ^ m.vars + 1)
    rounded = unfold term_by_term rule in
        (let w : ℕ = 2 ^ m.vars * m.radius in (
          omega (arith, integral_within false m, natAbs_sub (integral_sum floor m) w),
          omega (arith, integral_within true m, natAbs_add (integral_sum ceiling m) (pos w)),
        ))

pub exact_within : (m : Model) → nat_abs (exact_part m).quotient ≤ span m * 2 ^ m.vars
unfolding exact_part
exact_within m = go (has_exact m.vars)
  where
    go : (b : Bool) → nat_abs (elim b as (λ b. Mixed) [ true ↦ mixed_part m | false ↦ zero_mixed ]).quotient
        ≤ span m * 2 ^ m.vars
    go true = unfold mixed_part in (let b = quotient_within m in omega (arith, b))
    go false = unfold zero_mixed in omega arith

pub exact_remainder : (m : Model) → (exact_part m).remainder < common_denominator
unfolding exact_part
exact_remainder m = go (has_exact m.vars)
  where
    go : (b : Bool)
        → (elim b as (λ b. Mixed) [ true ↦ mixed_part m | false ↦ zero_mixed ]).remainder < common_denominator
    go true = unfold mixed_part in remainder_lt (integral_parts m) common_denominator denominator_pos
    go false = unfold zero_mixed in denominator_pos
