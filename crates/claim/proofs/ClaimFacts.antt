-- Facts beside the claim. It is not empty: every book has a point of the box and functions within its models, among
-- them polynomials, so that what is promised can be asked for. And it is not true of everything: each band alone, that
-- of the radius, of the range and of the integral, refutes a wrong answer, whatever the rest of the answer is.
-- JumpFacts goes on with functions that are no polynomials.
use Rattle.std.specs.Prelude.{◌≡◌, List, [], ◌∷◌, ℕ, zero, suc, ◌+◌, ◌<◌, ◌^◌, T, pos, negsuc, replicate}
use Rattle.std.proofs.Math.Path.{refl}
use Rattle.std.proofs.Common.{sym, ◌∙◌, ap, ap₂, arith, leb→le}
use Rattle.std.proofs.Math.Nat as NatL
use Rattle.algebra.specs.Ring.{nat}
use Rattle.algebra.specs.RingLaws.{*-zero}
use Rattle.algebra.specs.RingSolver.{𝟎, ◌⊞◌, ◌⊟◌, ◌⊠◌, ⊝◌, ring}
use Rattle.algebra.specs.Ordered.{abs}
use Rattle.algebra.specs.OrderedLaws.{abs_neg_eq}
use Rattle.algebra.proofs.Rational.{ℚ, ◌+ℚ◌, ◌*ℚ◌, negℚ, whole, ◌≤ℚ◌}
use Rattle.algebra.proofs.RationalRing.{ℚR}
use Rattle.algebra.proofs.RationalOrder.{ℚO}
use Rattle.algebra.proofs.RationalField.{ℚF}
use Rattle.algebra.proofs.RationalLaws.{≤-whole, nat_whole, whole-+, whole_neg}
use Rattle.polynomial.specs.Polynomial as P
use Rattle.polynomial.specs.Box.{none, more}
use Rattle.polynomial.proofs.IntegralLaws.{integral_constant}
use Rattle.numbers.specs.Fixed.{U}
use Rattle.calculus.specs.Model.{Model, zero_model, ◌/U, ◌-ℚ◌, distance, Point, InBox, polynomial, value, At}
use Rattle.calculus.specs.Model.{Within}
use Rattle.calculus.specs.Operations as Op
use Rattle.calculus.specs.Operations.{Ends, zero_ends, Mixed}
use Rattle.calculus.specs.Book.{constant, negate, Book, model_of, Summary, last}
use Rattle.calculus.specs.Functions.{Function, 0ℚ, ℚPolynomial, value_of, exact_integral, Lies}
use Rattle.claim.specs.Outcome.{functions, polynomials, input_outcome, step_value, step_polynomial, step_outcome}
use Rattle.claim.specs.Outcome.{outcome_of, outcomes_after, outcomes, outcome, no_antiderivative}
use Rattle.claim.specs.Outcome.{no_quotient_feeds}
use Rattle.claim.specs.Claim.{AllWithin, promised, Given, IsPolynomial, Claim}
use Rattle.claim.specs.Computing.{promises}
use Rattle.calculus_laws.specs.UnitLaws.{natural, natural-*, natural_≤, natural_nonneg, abs_whole, U_times}
use Rattle.calculus_laws.specs.UnitLaws.{U_cancel}
use Rattle.calculus_laws.specs.ValueLaws.{Near, at_near, scaled_value, abs_zero, sum_≤}
use Rattle.calculus_laws.specs.EnclosureLaws.{zero_near, constant_near}
use Rattle.calculus_laws.specs.ChainLaws.{◌≤≤◌, ◌≡≤◌, ◌≤≡◌}
open ℚR use {+-neg, *-assoc}

-- ---- every hypothesis can be met, for every book
-- functions: the values of the models' polynomials
unfoldable pub own : Book → ℕ → Function
own b a = value (model_of b a)

pub radius_nonneg : (e : ℕ) → natural 0 ≤ℚ pos e /U
radius_nonneg e = U_cancel (natural 0) (pos e /U) (*-zero ℚR (natural U) ≡≤ natural_nonneg e ≤≡ sym (U_times (pos e)))

pub own_within : (b : Book) → AllWithin b (functions (own b))
unfolding AllWithin Within At distance own input_outcome
own_within b a h x hx = ap (abs ℚO) (+-neg (value (model_of b a) x))
    ≡≤ abs_zero
    ≤≤ radius_nonneg (model_of b a).radius

-- polynomials: these themselves
unfoldable pub own_polynomial : Book → ℕ → ℚPolynomial
own_polynomial b a = polynomial (model_of b a)

pub own_polynomial_within : (b : Book) → AllWithin b (polynomials (own_polynomial b))
unfolding own_polynomial value_of value own AllWithin Within input_outcome
own_polynomial_within b = own_within b

-- a point: all coordinates 0
unfoldable pub origin : ℕ → Point
origin n = replicate n 0ℚ

pub origin_inside : (n : ℕ) → InBox n (origin n)
unfolding origin
origin_inside zero = none
origin_inside (suc n) = more (abs_zero ≤≤ natural_≤ 0 1 (omega arith)) (origin_inside n)

-- where no step is an antiderivative
pub own_given : (b : Book) → T (no_antiderivative b.steps) → Given b (functions (own b)) (origin b.vars)
own_given b z = record {
  inputs = own_within b;
  as_promised = unfold promised in z;
  point = origin_inside b.vars;
}

-- where no quotient feeds one
pub own_polynomial_given : (b : Book) → T (no_quotient_feeds b.steps)
    → Given b (polynomials (own_polynomial b)) (origin b.vars)
own_polynomial_given b z = record {
  inputs = own_polynomial_within b;
  as_promised = unfold promised in z;
  point = origin_inside b.vars;
}

-- ---- each band alone refutes a wrong answer
-- an inequality of whole numbers that is false
pub false_≤ : (m n : ℕ) → n < m → natural m ≤ℚ natural n → ⊥
false_≤ m n l h = omega (arith, leb→le m n (≤-whole (pos m) (pos n) h).le)

-- what lies within two models of the same terms differs by at most both radii
pub both_near : (m k : Model) (x : Point) (y z : ℚ) → m.terms ≡ k.terms → Near m x y → Near k x z
    → abs ℚO (natural U *ℚ y -ℚ natural U *ℚ z) ≤ℚ natural (m.radius + k.radius)
unfolding Near
both_near m k x y z e h g = ap (abs ℚO) (ring 3 ℚR (λ a b v. a ⊟ b) (λ a b v. (a ⊟ v) ⊞ ⊝ (b ⊟ v)) refl
    (natural U *ℚ y) (natural U *ℚ z) (scaled_value m.terms x))
    ≡≤ sum_≤ _ _ _ _ h (abs_neg_eq ℚO _
    ≡≤ ap (λ p. abs ℚO (natural U *ℚ z -ℚ scaled_value p x)) e ≡≤ g)

-- the constant 1 / U in any number of variables, beside any models
unfoldable pub one_step : (v : ℕ) → List Model → Book
one_step v ms = record { vars = v; order = 1; models = ms; steps = constant (pos 1) ∷ [] }

-- the zero model is not its result
pub radius_refutes : (v : ℕ) (ms : List Model) (n : ℕ) (r i : Ends) (x : Mixed)
    → Claim (one_step v ms) (record { model = zero_model n; range = r; integral = i; exact = x }) → ⊥
unfolding one_step outcome outcomes outcomes_after step_outcome step_value last zero_model
radius_refutes v ms n r i x c =
    false_≤ 1 0 (omega arith) (sym (abs_whole (pos 1)) ≡≤ ap (abs ℚO) (sym difference) ≡≤ near)
  where
    at : At (zero_model n) (origin v) (pos 1 /U)
    at = c.within_radius (functions (own (one_step v ms))) (origin v)
        (own_given (one_step v ms) (unfold promises in tt))

    near : abs ℚO (natural U *ℚ pos 1 /U -ℚ natural U *ℚ 0ℚ) ≤ℚ natural 0
    near = both_near (zero_model n) (zero_model n) (origin v) (pos 1 /U) 0ℚ refl
        (at_near (zero_model n) (origin v) (pos 1 /U) at) (zero_near n (origin v))

    difference : natural U *ℚ pos 1 /U -ℚ natural U *ℚ 0ℚ ≡ natural 1
    difference = ring 2 ℚR (λ u a. u ⊠ a ⊟ u ⊠ 𝟎) (λ u a. u ⊠ a) refl (natural U) (pos 1 /U) ∙ U_times (pos 1)

-- 0 to 0 is not its range
pub range_refutes : (v : ℕ) (m : Model) (i : Ends) (x : Mixed)
    → Claim (one_step v []) (record { model = m; range = zero_ends; integral = i; exact = x }) → ⊥
unfolding one_step zero_ends outcome outcomes outcomes_after step_outcome step_value last
range_refutes v m i x c = false_≤ 1 0 (omega arith) (sym (U_times (pos 1)) ≡≤ lies.to)
  where
    lies : Lies (pos 1 /U) zero_ends
    lies = c.in_range (functions (own (one_step v []))) (origin v) (own_given (one_step v []) (unfold promises in tt))

-- 0 to 0 is not its integral
pub integral_refutes : (v : ℕ) (m : Model) (r : Ends) (x : Mixed)
    → Claim (one_step v []) (record { model = m; range = r; integral = zero_ends; exact = x }) → ⊥
unfolding one_step zero_ends outcome outcomes outcomes_after step_outcome step_polynomial last exact_integral
    promises
integral_refutes v m r x c = false_≤ (2 ^ v) 0 (NatL.one-le-pow v 2 (omega arith)) (sym amount ≡≤ lies.to)
  where
    lies : Lies (exact_integral v (P.constant ℚR (pos 1 /U))) zero_ends
    lies = c.integral_in_ends (own_polynomial (one_step v [])) tt (own_polynomial_within (one_step v []))
        (P.constant ℚR (pos 1 /U)) refl

    amount : natural U *ℚ exact_integral v (P.constant ℚR (pos 1 /U)) ≡ natural (2 ^ v)
    amount = ap (λ z. natural U *ℚ z) (integral_constant ℚF v (pos 1 /U))
        ∙ sym (*-assoc (natural U) (pos 1 /U) (nat ℚR (2 ^ v)))
        ∙ ap₂ ◌*ℚ◌ (U_times (pos 1)) (nat_whole (2 ^ v)) ∙ sym (natural-* 1 (2 ^ v))
        ∙ ap natural (NatL.one-mul (2 ^ v))

-- and whatever the answer is, its outcome is a polynomial
pub outcome_made : (v : ℕ) (s : Summary) → Claim (one_step v []) s
    → IsPolynomial v (outcome (polynomials (own_polynomial (one_step v []))) (one_step v []).steps)
unfolding one_step promises
outcome_made v s c = c.outcome_is_polynomial (own_polynomial (one_step v [])) tt

-- ---- and an operand passed through is not the answer of the step that takes it
-- 1 / U, and minus that
unfoldable pub negated : Book
negated = record { vars = 1; order = 1; models = []; steps = constant (pos 1) ∷ negate 0 ∷ [] }

-- the model of 1 / U is not its result
pub passing_refuted : (r i : Ends) (x : Mixed)
    → Claim negated (record { model = Op.constant 1 (pos 1); range = r; integral = i; exact = x }) → ⊥
unfolding negated outcome outcomes outcomes_after step_outcome step_value outcome_of last
passing_refuted r i x c = false_≤ 2 0 (omega arith) (sym (abs_whole (negsuc 1)) ≡≤ ap (abs ℚO) (sym difference) ≡≤ near)
  where
    m : Model
    m = Op.constant 1 (pos 1)

    at : At m (origin 1) (negℚ (pos 1 /U))
    at = c.within_radius (functions (own negated)) (origin 1) (own_given negated (unfold promises in tt))

    near : abs ℚO (natural U *ℚ negℚ (pos 1 /U) -ℚ natural U *ℚ pos 1 /U) ≤ℚ natural 0
    near = unfold Op.constant in both_near m m (origin 1) (negℚ (pos 1 /U)) (pos 1 /U) refl
        (at_near m (origin 1) (negℚ (pos 1 /U)) at) (constant_near 1 (pos 1) (origin 1))

    difference : natural U *ℚ negℚ (pos 1 /U) -ℚ natural U *ℚ pos 1 /U ≡ whole (negsuc 1)
    difference = ring 2 ℚR (λ u a. u ⊠ ⊝ a ⊟ u ⊠ a) (λ u a. ⊝ (u ⊠ a ⊞ u ⊠ a)) refl (natural U) (pos 1 /U)
        ∙ ap (λ z. negℚ (z +ℚ z)) (U_times (pos 1))
        ∙ ap negℚ (sym (whole-+ (pos 1) (pos 1))) ∙ sym (whole_neg (pos 2))
