-- Facts beside the claim with an antiderivative: a book with an antiderivative and then a quotient is promised its
-- bands and meets the hypotheses, one whose quotient feeds an antiderivative is not; the outcome follows the input and
-- not the model; and answers without the operand's radius or without either growth are refuted, as are ranges and
-- integral ends that leave out what such a book gives, and an antiderivative that is zero at -1.
use Rattle.std.specs.Prelude.{◌≡◌, true, false, [], ◌∷◌, ℕ, ◌+◌, ◌*◌, ◌/◌, ◌≤◌, pos, negsuc, ◌≤ℤ◌}
use Rattle.std.proofs.Math.Path.{refl, ap, ap₂}
use Rattle.std.proofs.Common.{sym, ◌∙◌, arith}
use Rattle.algebra.specs.Ring.{nat, pow}
use Rattle.algebra.specs.RingSolver.{𝟎, 𝟏, ◌⊞◌, ◌⊟◌, ◌⊠◌, ⊝◌, ring}
use Rattle.algebra.specs.Ordered.{abs}
use Rattle.algebra.specs.OrderedLaws.{abs_mul, abs_pos, *-mono}
use Rattle.algebra.proofs.Rational.{ℚ, ◌+ℚ◌, ◌*ℚ◌, negℚ, whole, ◌≤ℚ◌, reciprocal}
use Rattle.algebra.proofs.RationalRing.{ℚR}
use Rattle.algebra.proofs.RationalOrder.{ℚO}
use Rattle.algebra.proofs.RationalField.{ℚF}
use Rattle.algebra.proofs.RationalLaws.{≤-whole, nat_whole, whole-+, whole_neg, whole_reciprocal}
use Rattle.polynomial.specs.Polynomial.{eval, monomial, exponent, raise, replace}
use Rattle.polynomial.proofs.PolynomialLaws.{eval_sum, eval_constant}
use Rattle.polynomial.specs.Integral as I
use Rattle.polynomial.specs.Antiderivative.{antiderivative_in}
use Rattle.polynomial.proofs.VariableAntiderivativeLaws.{antiderivative_constant}
use Rattle.numbers.specs.Fixed.{U}
use Rattle.numbers.proofs.FixedLaws.{U_suc}
use Rattle.calculus.specs.Monomial.{index_of}
use Rattle.calculus.specs.Terms.{term}
use Rattle.calculus.specs.Model.{Model, zero_model, ◌/U, ◌-ℚ◌, distance, Point, polynomial, value, At}
use Rattle.calculus.specs.Model.{Within}
use Rattle.calculus.specs.Refusal.{done}
use Rattle.calculus.specs.Operations.{Ends, Mixed}
use Rattle.calculus.specs.Book.{input, constant, negate, multiply, quotient, antiderivative, Book, model_of}
use Rattle.calculus.specs.Book.{operands, Summary, summary, last, run}
use Rattle.calculus.specs.Functions.{0ℚ, ℚPolynomial, value_of, antiderivative_of, exact_integral, Lies}
use Rattle.claim.specs.Outcome.{Inputs, functions, polynomials, input_outcome, mapped, value_of_made, step_value}
use Rattle.claim.specs.Outcome.{step_polynomial, step_outcome, outcome_of, outcomes_after, outcomes, outcome}
use Rattle.claim.specs.Claim.{AllWithin, promised, Given, Claim}
use Rattle.calculus.specs.Computing.{runs}
use Rattle.claim.specs.Computing.{promises}
use Rattle.calculus_laws.specs.UnitLaws.{natural, natural-*, natural_nonneg, U_times}
use Rattle.calculus_laws.specs.ValueLaws.{Near, at_near, abs_zero}
use Rattle.calculus_laws.specs.EnclosureLaws.{zero_near}
use Rattle.calculus_laws.specs.ChainLaws.{◌≡≤◌, ◌≤≡◌}
use Rattle.claim.proofs.ClaimFacts.{own_polynomial, own_polynomial_within, both_near}
use Rattle.claim.proofs.ClaimProof.{claim}
use Rattle.claim.proofs.JumpFacts.{Jump, up, down, height, shifted, height_fits, bounded, left}
use Rattle.claim.proofs.QuotientFacts.{right, right_inside}

-- ---- what feeds an antiderivative
-- an antiderivative, and then a quotient by 2 of it: f within 1 with radius 1, its antiderivative x, w = 1/2, h = x/2
unfoldable pub mixed : Book
mixed = record {
  vars = 1;
  order = 2;
  models = record { vars = 1; radius = 1; terms = term (pos U) (0 ∷ []) ∷ [] } ∷ [];
  steps = input 0 ∷ antiderivative 0 1 ∷ constant (pos (2 * U)) ∷ constant (pos (U / 2)) ∷ multiply 1 3
      ∷ quotient 1 2 4 3 ∷ [];
}

-- its result: x/2 with radius 1
unfoldable pub mixed_result : Model
mixed_result = record { vars = 1; radius = 1; terms = term (pos (U / 2)) (1 ∷ []) ∷ [] }

pub mixed_runs : run mixed ≡ done (summary mixed_result)
unfolding runs mixed mixed_result
mixed_runs = refl

-- it is promised to polynomials, and not to every function
pub mixed_promised : (Q : ℕ → ℚPolynomial) → promised mixed (polynomials Q) ≡ true
unfolding promises mixed
mixed_promised Q = refl

pub mixed_not_promised : (F : ℕ → Point → ℚ) → promised mixed (functions F) ≡ false
unfolding promises mixed
mixed_not_promised F = refl

-- its own polynomials meet the hypotheses, and the band holds of what they give
pub mixed_given : Given mixed (polynomials (own_polynomial mixed)) right
mixed_given = record {
  inputs = own_polynomial_within mixed;
  as_promised = unfold promises mixed in tt;
  point = unfold mixed in right_inside;
}

pub mixed_claimed : At mixed_result right ((outcome (polynomials (own_polynomial mixed)) mixed.steps).at right)
unfolding summary
mixed_claimed = (claim mixed (summary mixed_result) mixed_runs).within_radius _ right mixed_given

-- a quotient that stands beside an antiderivative, before it and without feeding it: promised too
unfoldable pub beside : Book
beside = record {
  vars = 1;
  order = 2;
  models = record { vars = 1; radius = 1; terms = [] } ∷ [];
  steps = input 0 ∷ constant (pos U) ∷ quotient 0 1 0 1 ∷ negate 0 ∷ antiderivative 3 1 ∷ [];
}

pub beside_promised : (Q : ℕ → ℚPolynomial) → promised beside (polynomials Q) ≡ true
unfolding promises beside
beside_promised Q = refl

-- a quotient that feeds an antiderivative through another step: nothing is promised
unfoldable pub fed : Book
fed = record {
  vars = 1;
  order = 2;
  models = record { vars = 1; radius = 1; terms = [] } ∷ [];
  steps = input 0 ∷ constant (pos U) ∷ quotient 0 1 0 1 ∷ negate 2 ∷ antiderivative 3 1 ∷ [];
}

pub fed_not_promised : (I : Inputs) → promised fed I ≡ false
unfolding promises fed
fed_not_promised (functions F) = refl
fed_not_promised (polynomials Q) = refl

-- though it runs
pub fed_runs : run fed ≡ done (summary (record { vars = 1; radius = 1; terms = [] }))
unfolding runs fed
fed_runs = refl

-- a quotient names its proposal too: what feeds that feeds the quotient
pub quotient_operands : operands (quotient 1 2 3 4) ≡ 1 ∷ 2 ∷ 3 ∷ 4 ∷ []
unfolding promises
quotient_operands = refl

-- ---- the outcome follows the input: its polynomial moved up or down by the model's radius
-- within the models of every book
pub shifted_within : (j : Jump) (b : Book) → AllWithin b (polynomials (shifted j b))
unfolding AllWithin Within At distance shifted input_outcome value_of value own_polynomial
shifted_within j b a h x hx = ap (abs ℚO) (ap (λ z. z -ℚ value m x) (eval_sum ℚR (polynomial m) _ x
    ∙ ap (λ z. value m x +ℚ z) (eval_constant ℚR (height j m) x))
    ∙ ring 2 ℚR (λ v e. v ⊞ e ⊟ v) (λ v e. e) refl (value m x) (height j m)) ≡≤ height_fits j m
  where
    m : Model
    m = model_of b a

-- the antiderivative of a function that is within a model without terms, radius 1
unfoldable pub gathered : Book
gathered = record {
  vars = 1;
  order = 1;
  models = record { vars = 1; radius = 1; terms = [] } ∷ [];
  steps = input 0 ∷ antiderivative 0 1 ∷ [];
}

pub gathered_runs : run gathered ≡ done (summary (record { vars = 1; radius = 1; terms = [] }))
unfolding runs gathered
gathered_runs = refl

-- with polynomials, at 1
unfoldable pub gathered_outcome : (ℕ → ℚPolynomial) → ℚ
gathered_outcome Q = (outcome (polynomials Q) gathered.steps).at right

-- its own polynomial gives 0,
pub own_at_one : gathered_outcome (own_polynomial gathered) ≡ 0ℚ
unfolding gathered_outcome gathered outcome outcomes outcomes_after step_outcome step_value step_polynomial outcome_of
    last input_outcome mapped value_of_made antiderivative_of own_polynomial model_of polynomial value_of eval
    antiderivative_in
own_at_one = refl

-- and moved by the radius it gives the radius
shifted_at_one : (j : Jump) → gathered_outcome (shifted j gathered)
    ≡ height j (record { vars = 1; radius = 1; terms = [] }) *ℚ natural 1
unfolding gathered_outcome gathered outcome outcomes outcomes_after step_outcome step_value step_polynomial outcome_of
    last input_outcome mapped value_of_made antiderivative_of shifted own_polynomial model_of polynomial value_of
    index_of right replace
shifted_at_one j = antiderivative_constant ℚF 0 (height j _) (natural 1) (natural 1 ∷ []) (omega arith)

pub up_at_one : natural U *ℚ gathered_outcome (shifted up gathered) ≡ whole (pos 1)
unfolding height
up_at_one = ap (λ z. natural U *ℚ z) (shifted_at_one up)
    ∙ ring 2 ℚR (λ u a. u ⊠ (a ⊠ 𝟏)) (λ u a. u ⊠ a) refl (natural U) (pos 1 /U) ∙ U_times (pos 1)

pub down_at_one : natural U *ℚ gathered_outcome (shifted down gathered) ≡ whole (negsuc 0)
unfolding height
down_at_one = ap (λ z. natural U *ℚ z) (shifted_at_one down)
    ∙ ring 2 ℚR (λ u a. u ⊠ (⊝ a ⊠ 𝟏)) (λ u a. ⊝ (u ⊠ a)) refl (natural U) (pos 1 /U)
    ∙ ap negℚ (U_times (pos 1)) ∙ sym (whole_neg (pos 1))

-- so the outcome is not that of the model's polynomial
pub input_matters : gathered_outcome (shifted up gathered) ≡ gathered_outcome (own_polynomial gathered) → ⊥
input_matters e = let k : 1 ≤ 0 = bounded (pos 1) 0 _ (sym (ap (λ z. natural U *ℚ z) (e ∙ own_at_one)) ∙ up_at_one)
    (ap (abs ℚO) (ring 1 ℚR (λ u. u ⊠ 𝟎) (λ u. 𝟎) refl (natural U)) ≡≤ abs_zero) in omega arith

pub gathered_given : (j : Jump) → Given gathered (polynomials (shifted j gathered)) right
gathered_given j = record {
  inputs = shifted_within j gathered;
  as_promised = unfold promises gathered in tt;
  point = unfold gathered in right_inside;
}

-- whatever its terms are, an answer has at least the operand's radius
pub gathered_radius : (s : Summary) → Claim gathered s → 1 ≤ s.model.radius
gathered_radius s c = let h : 2 ≤ s.model.radius + s.model.radius = bounded (pos 2) _ _ apart
    (both_near s.model s.model right _ _ refl (near up) (near down)) in omega arith
  where
    near : (j : Jump) → Near s.model right (gathered_outcome (shifted j gathered))
    near j = unfold gathered_outcome in
        at_near s.model right _ (c.within_radius (polynomials (shifted j gathered)) right (gathered_given j))

    apart : natural U *ℚ gathered_outcome (shifted up gathered) -ℚ natural U *ℚ gathered_outcome (shifted down gathered)
        ≡ whole (pos 2)
    apart = ap₂ ◌-ℚ◌ up_at_one down_at_one
        ∙ ap (λ z. whole (pos 1) +ℚ z) (sym (whole_neg (negsuc 0))) ∙ sym (whole-+ (pos 1) (pos 1))

-- and its range reaches as far
pub gathered_range : (s : Summary) → Claim gathered s
    → (s.range.low ≤ℤ negsuc 0) × (pos 1 ≤ℤ s.range.high)
gathered_range s c = (
  ≤-whole s.range.low (negsuc 0) ((lies down).from ≤≡ down_at_one),
  ≤-whole (pos 1) s.range.high (sym up_at_one ≡≤ (lies up).to),
)
  where
    lies : (j : Jump) → Lies (gathered_outcome (shifted j gathered)) s.range
    lies j = unfold gathered_outcome in
        c.in_range (polynomials (shifted j gathered)) right (gathered_given j)

pub without_input_refuted : (r i : Ends) (x : Mixed)
    → Claim gathered (record {
      model = record { vars = 1; radius = 0; terms = [] };
      range = r;
      integral = i;
      exact = x;
    })
    → ⊥
without_input_refuted r i x c = omega (arith, gathered_radius _ c)

-- ---- both growths are needed: c x in order d, in units, with radius 0
unfoldable pub term_book : (d c : ℕ) → Book
term_book d c = record {
  vars = 1;
  order = d;
  models = record { vars = 1; radius = 0; terms = term (pos c) (1 ∷ []) ∷ [] } ∷ [];
  steps = input 0 ∷ antiderivative 0 1 ∷ [];
}

-- 1/2 goes to 0: radius 1; and 2/2 is swept: radius 1
pub rounded_runs : run (term_book 2 1) ≡ done (summary (record { vars = 1; radius = 1; terms = [] }))
unfolding runs term_book
rounded_runs = refl

pub swept_runs : run (term_book 1 2) ≡ done (summary (record { vars = 1; radius = 1; terms = [] }))
unfolding runs term_book
swept_runs = refl

module _ (d c : ℕ) where
  -- at 1, with the model's own polynomial
  half : ℚ
  half = (outcome (polynomials (own_polynomial (term_book d c))) (term_book d c).steps).at right

  twice_half : natural 2 *ℚ (natural U *ℚ half) ≡ natural c
  unfolding half term_book outcome outcomes outcomes_after step_outcome step_value step_polynomial outcome_of
      last input_outcome mapped value_of_made antiderivative_of own_polynomial model_of polynomial value_of eval
      antiderivative_in exponent raise monomial pow index_of right
  twice_half = ring 4 ℚR (λ t u a r. t ⊠ (u ⊠ (a ⊠ r ⊠ (𝟏 ⊠ (𝟏 ⊠ 𝟏) ⊠ 𝟏) ⊞ 𝟎))) (λ t u a r. (u ⊠ a) ⊠ (t ⊠ r)) refl
      (natural 2) (natural U) (pos c /U) (reciprocal 2)
      ∙ ap₂ ◌*ℚ◌ (U_times (pos c)) (whole_reciprocal 2 (omega arith)) ∙ ℚR.*-one (natural c)

  -- without terms, an answer's radius is at least half of c
  radius_enough : (e : ℕ) (r i : Ends) (x : Mixed)
      → Claim (term_book d c) (record {
        model = record { vars = 1; radius = e; terms = [] };
        range = r;
        integral = i;
        exact = x;
      })
      → c ≤ 2 * e
  radius_enough e r i x g = bounded (pos c) (2 * e) _ twice_half
      (abs_mul ℚO (natural 2) _ ∙ ap (λ z. z *ℚ abs ℚO (natural U *ℚ half)) (abs_pos ℚO (natural_nonneg 2))
      ∙ ℚR.*-comm _ _
      ≡≤ *-mono ℚO (natural_nonneg 2) small
      ≤≡ (ℚR.*-comm _ _ ∙ sym (natural-* 2 e)))
    where
      m : Model
      m = record { vars = 1; radius = e; terms = [] }

      near : Near m right half
      near = unfold half in at_near m right _ (g.within_radius (polynomials (own_polynomial (term_book d c))) right
          (record {
            inputs = own_polynomial_within (term_book d c);
            as_promised = unfold promises term_book in tt;
            point = unfold term_book in right_inside;
          }))

      small : abs ℚO (natural U *ℚ half) ≤ℚ natural e
      small = ap (abs ℚO) (ring 2 ℚR (λ u h. u ⊠ h) (λ u h. u ⊠ h ⊟ u ⊠ 𝟎) refl (natural U) half)
          ≡≤ both_near m (zero_model 1) right half 0ℚ (unfold zero_model in refl) near (zero_near 1 right)
          ≤≡ ap natural (unfold zero_model in (omega arith))

pub without_rounding_refuted : (r i : Ends) (x : Mixed)
    → Claim (term_book 2 1) (record {
      model = record { vars = 1; radius = 0; terms = [] };
      range = r;
      integral = i;
      exact = x;
    })
    → ⊥
without_rounding_refuted r i x c = omega (arith, radius_enough 2 1 0 r i x c)

pub without_swept_refuted : (r i : Ends) (x : Mixed)
    → Claim (term_book 1 2) (record {
      model = record { vars = 1; radius = 0; terms = [] };
      range = r;
      integral = i;
      exact = x;
    })
    → ⊥
without_swept_refuted r i x c = omega (arith, radius_enough 1 2 0 r i x c)

-- ---- the integral: that of 3x^2/2, the antiderivative of 3x, is 1
unfoldable pub gathered_curve : ℚPolynomial
gathered_curve = antiderivative_of 1 (own_polynomial (term_book 2 3) 0)

curve_integral : natural U *ℚ exact_integral 1 gathered_curve ≡ natural 1
unfolding gathered_curve exact_integral antiderivative_of antiderivative_in own_polynomial model_of term_book polynomial
    exponent raise index_of I.integral I.moment I.all_even I.even I.first I.rest I.divisor
curve_integral = ring 5 ℚR (λ u a r t s. u ⊠ (a ⊠ r ⊠ (t ⊠ s) ⊞ 𝟎)) (λ u a r t s. (u ⊠ a) ⊠ s ⊠ (t ⊠ r)) refl
    (natural U) (pos 3 /U) (reciprocal 2) (nat ℚR 2) (reciprocal 3)
    ∙ ap₂ (λ a t. a *ℚ reciprocal 3 *ℚ (t *ℚ reciprocal 2)) (U_times (pos 3)) (nat_whole 2)
    ∙ ap₂ ◌*ℚ◌ (whole_reciprocal 3 (omega arith)) (whole_reciprocal 2 (omega arith)) ∙ ℚR.*-one (natural 1)

-- so an answer's ends enclose 1
pub gathered_integral : (s : Summary) → Claim (term_book 2 3) s
    → (s.integral.low ≤ℤ pos 1) × (pos 1 ≤ℤ s.integral.high)
gathered_integral s c = (
  ≤-whole s.integral.low (pos 1) (lies.from ≤≡ curve_integral),
  ≤-whole (pos 1) s.integral.high (sym curve_integral ≡≤ lies.to),
)
  where
    lies : Lies (exact_integral 1 gathered_curve) s.integral
    lies = unfold gathered_curve term_book promises outcome outcomes outcomes_after step_outcome step_polynomial
        outcome_of last input_outcome mapped in
        c.integral_in_ends (own_polynomial (term_book 2 3)) tt (own_polynomial_within (term_book 2 3)) _ refl

-- ---- the antiderivative that is zero at -1: the claim would be false of this accepted book
unfoldable pub ramp : Book
ramp = record { vars = 1; order = 1; models = []; steps = constant (pos U) ∷ antiderivative 0 1 ∷ [] }

-- its result: x
unfoldable pub ramp_result : Model
ramp_result = record { vars = 1; radius = 0; terms = term (pos U) (1 ∷ []) ∷ [] }

pub ramp_runs : run ramp ≡ done (summary ramp_result)
unfolding runs ramp ramp_result
ramp_runs = refl

-- less its value at -1
unfoldable pub from_minus_one : Inputs → Point → ℚ
from_minus_one I x = (outcome I ramp.steps).at x -ℚ (outcome I ramp.steps).at left

ramp_at : (I : Inputs) (y : ℚ) → (outcome I ramp.steps).at (y ∷ []) ≡ pos U /U *ℚ y
unfolding ramp outcome outcomes outcomes_after step_outcome step_value step_polynomial outcome_of last mapped
    value_of_made antiderivative_of value_of index_of replace
ramp_at I y = antiderivative_constant ℚF 0 (pos U /U) y (y ∷ []) (omega arith)

-- at 1 it is more than the outcome by 1
above : (I : Inputs) → natural U *ℚ from_minus_one I right -ℚ natural U *ℚ (outcome I ramp.steps).at right
    ≡ whole (pos U)
unfolding from_minus_one left right
above I = ap₂ (λ a b. natural U *ℚ (a -ℚ b) -ℚ natural U *ℚ a) (ramp_at I (natural 1)) (ramp_at I (whole (negsuc 0)))
    ∙ ap (λ z. natural U *ℚ (a *ℚ natural 1 -ℚ a *ℚ z) -ℚ natural U *ℚ (a *ℚ natural 1)) (whole_neg (pos 1))
    ∙ ring 2 ℚR (λ u a. u ⊠ (a ⊠ 𝟏 ⊟ a ⊠ (⊝ 𝟏)) ⊟ u ⊠ (a ⊠ 𝟏)) (λ u a. u ⊠ a) refl (natural U) a
    ∙ U_times (pos U)
  where
    a : ℚ
    a = pos U /U

pub from_minus_one_refuted : ((I : Inputs) (x : Point) → Given ramp I x → At ramp_result x (from_minus_one I x)) → ⊥
unfolding ramp_result
from_minus_one_refuted h = let k : U ≤ 0 + 0 = bounded (pos U) _ _ (above I)
    (both_near ramp_result ramp_result right _ _ refl (at_near ramp_result right _ (h I right given))
    (at_near ramp_result right _ holds)) in omega (arith, U_suc)
  where
    I : Inputs
    I = polynomials (own_polynomial ramp)

    given : Given ramp I right
    given = record {
      inputs = own_polynomial_within ramp;
      as_promised = unfold promises ramp in tt;
      point = unfold ramp in right_inside;
    }

    holds : At ramp_result right ((outcome I ramp.steps).at right)
    holds = unfold summary in (claim ramp (summary ramp_result) ramp_runs).within_radius I right given
