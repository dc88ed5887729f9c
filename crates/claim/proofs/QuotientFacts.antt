-- Facts beside the claim with a quotient: functions that are no polynomials meet its hypotheses and reach its radius
-- and the ends of its range; and they refute an answer with h's own radius, one with U in place of U - mu, and a claim
-- that takes the outcome of h for the quotient's.
use Rattle.std.specs.Prelude.{◌≡◌, ◌≢◌, [], ◌∷◌, ℕ, suc, ◌+◌, ◌/◌, ◌≤◌, ℤ, pos, negsuc, ◌≤ℤ◌}
use Rattle.std.proofs.Math.Path.{refl, ap}
use Rattle.std.proofs.Common.{sym, ◌∙◌, ap₂, arith}
use Rattle.std.proofs.Math.Bool.{true, false}
use Rattle.algebra.specs.RingSolver.{𝟎, ◌⊞◌, ◌⊟◌, ◌⊠◌, ⊝◌, ring}
use Rattle.algebra.proofs.Rational.{ℚ, ◌+ℚ◌, ◌*ℚ◌, negℚ, ◌/ℚ◌, whole}
use Rattle.algebra.proofs.RationalRing.{ℚR}
use Rattle.algebra.proofs.RationalLaws.{/ℚ_back, ≤-whole, whole-+, whole-*, whole_neg}
use Rattle.polynomial.specs.Polynomial.{eval}
use Rattle.polynomial.specs.Box.{none, more}
use Rattle.numbers.proofs.FixedLaws.{U_even}
use Rattle.numbers.specs.Fixed.{U}
use Rattle.calculus.specs.Monomial.{index_of}
use Rattle.calculus.specs.Model.{Model, zero_model, ◌/U, ◌-ℚ◌, Point, InBox, polynomial, value, At}
use Rattle.calculus.specs.Refusal.{done}
use Rattle.calculus.specs.Operations.{Ends, Mixed}
use Rattle.calculus.specs.Book.{input, constant, variable, quotient, Book, model_of, Summary, summary, last}
use Rattle.calculus.specs.Book.{run}
use Rattle.calculus.specs.Functions.{0ℚ, coordinate, ℚPolynomial, value_of, Lies}
use Rattle.claim.specs.Outcome.{Inputs, functions, input_outcome, step_value, step_outcome, outcome_of}
use Rattle.claim.specs.Outcome.{outcomes_after, outcomes, outcome}
use Rattle.claim.specs.Claim.{Given, Claim}
use Rattle.calculus.specs.Computing.{runs}
use Rattle.claim.specs.Computing.{promises}
use Rattle.calculus_laws.specs.UnitLaws.{natural, natural-*, abs_whole, U_times}
use Rattle.calculus_laws.specs.ValueLaws.{Near, at_near}
use Rattle.calculus_laws.specs.EnclosureLaws.{zero_near}
use Rattle.calculus_laws.specs.ChainLaws.{◌≡≤◌, ◌≤≡◌, equal}
use Rattle.claim.proofs.ClaimFacts.{own, origin, own_given, both_near}
use Rattle.claim.proofs.ClaimProof.{claim}
use Rattle.claim.proofs.JumpFacts.{Jump, up, down, height, jumping, jumping_within, one_above, bounded, woven}
use Rattle.claim.proofs.JumpFacts.{no_polynomial}

-- ---- the book: f / g with f within a model without terms, radius 3, and g the constant 1/2; the proposal is h, a
-- model without terms and with any radius e, and w, the constant 1, so that mu is U/2
unfoldable pub halved : (e : ℕ) → Book
halved e = record {
  vars = 1;
  order = 1;
  models = record { vars = 1; radius = 3; terms = [] } ∷ record { vars = 1; radius = e; terms = [] } ∷ [];
  steps = input 0 ∷ input 1 ∷ constant (pos (U / 2)) ∷ constant (pos U) ∷ quotient 0 2 1 3 ∷ [];
}

-- its result: the polynomial of h, radius 3 × U / (U - U/2)
unfoldable pub halved_result : Model
halved_result = record { vars = 1; radius = 6; terms = [] }

pub halved_runs : run (halved 1) ≡ done (summary halved_result)
unfolding runs halved halved_result
halved_runs = refl

-- whatever the radius of h is
pub halved_runs_wide : run (halved 100) ≡ done (summary halved_result)
unfolding runs halved halved_result
halved_runs_wide = refl

-- ---- the outcome
-- 1, a point of the box, where functions that jump differ from their models' polynomials
unfoldable pub right : Point
right = natural 1 ∷ []

pub right_inside : InBox 1 right
unfolding right
right_inside = more (equal (abs_whole (pos 1))) none

-- with such functions
unfoldable pub halved_outcome : (e : ℕ) → Jump → ℚ
halved_outcome e j = (outcome (functions (jumping j (halved e))) (halved e).steps).at right

pub given : (e : ℕ) (j : Jump) → Given (halved e) (functions (jumping j (halved e))) right
given e j = record {
  inputs = jumping_within j (halved e);
  as_promised = unfold promises halved in tt;
  point = unfold halved in right_inside;
}

-- they are no polynomials
pub halved_no_polynomial : (e : ℕ) (q : ℚPolynomial)
    → ((x : Point) → InBox 1 x → value_of q x ≡ jumping up (halved e) 0 x) → ⊥
unfolding halved woven jumping own model_of
halved_no_polynomial e q h = no_polynomial q h

module _ (e : ℕ) (j : Jump) where
  -- F(1), the whole radius up or down
  abbrev F : ℚ
  F = 0ℚ +ℚ height j (record { vars = 1; radius = 3; terms = [] })

  abbrev G : ℚ
  G = pos (U / 2) /U

  at_right : halved_outcome e j ≡ F /ℚ G
  unfolding halved_outcome halved right outcome outcomes outcomes_after step_outcome step_value input_outcome outcome_of
      last coordinate index_of jumping own model_of value polynomial eval
  at_right = ap (λ t. elim t [ true ↦ 0ℚ | false ↦ F ] /ℚ G) one_above

  -- U F / G is twice U F
  scaled : (s : Summary) → Claim (halved e) s → (z : ℤ) → natural U *ℚ F ≡ whole z
      → natural U *ℚ halved_outcome e j ≡ whole (pos 2) *ℚ whole z
  scaled s c z h = ap (λ y. natural U *ℚ y) at_right
      ∙ ap (λ u. u *ℚ (F /ℚ G)) twice
      ∙ ring 3 ℚR (λ t u q. t ⊠ u ⊠ q) (λ t u q. t ⊠ (u ⊠ q)) refl (natural 2) (natural (U / 2)) (F /ℚ G)
      ∙ ap (λ y. natural 2 *ℚ (y *ℚ (F /ℚ G))) (sym (U_times (pos (U / 2))))
      ∙ ring 4 ℚR (λ t u g q. t ⊠ (u ⊠ g ⊠ q)) (λ t u g q. t ⊠ (u ⊠ (g ⊠ q))) refl (natural 2) (natural U) G (F /ℚ G)
      ∙ ap (λ y. natural 2 *ℚ (natural U *ℚ y)) (/ℚ_back F G divides) ∙ ap (λ y. natural 2 *ℚ y) h
    where
      twice : natural U ≡ natural 2 *ℚ natural (U / 2)
      twice = ap natural U_even ∙ natural-* 2 (U / 2)

      divides : G ≢ natural 0
      divides = unfold halved outcomes outcomes_after step_outcome step_value outcome_of in
          c.never_zero (functions (jumping j (halved e))) right (given e j) 4 0 2 1 3 refl

-- 6 up and 6 down
pub outcome_up : (e : ℕ) (s : Summary) → Claim (halved e) s → natural U *ℚ halved_outcome e up ≡ whole (pos 6)
unfolding height
outcome_up e s c = scaled e up s c (pos 3)
    (ring 2 ℚR (λ u a. u ⊠ (𝟎 ⊞ a)) (λ u a. u ⊠ a) refl (natural U) (pos 3 /U) ∙ U_times (pos 3))
    ∙ sym (whole-* (pos 2) (pos 3))

pub outcome_down : (e : ℕ) (s : Summary) → Claim (halved e) s → natural U *ℚ halved_outcome e down ≡ whole (negsuc 5)
unfolding height
outcome_down e s c = scaled e down s c (negsuc 2)
    (ring 2 ℚR (λ u a. u ⊠ (𝟎 ⊞ ⊝ a)) (λ u a. ⊝ (u ⊠ a)) refl (natural U) (pos 3 /U)
    ∙ ap negℚ (U_times (pos 3)) ∙ sym (whole_neg (pos 3)))
    ∙ sym (whole-* (pos 2) (negsuc 2))

-- ---- what the claim says of it
-- the outcome is within the result, and reaches its radius
pub halved_claimed : (j : Jump) → At halved_result right (halved_outcome 1 j)
unfolding halved_outcome summary
halved_claimed j = (claim (halved 1) (summary halved_result) halved_runs).within_radius _ right (given 1 j)

-- whatever its terms are, an answer has at least the radius 6
pub least_radius : (e : ℕ) (s : Summary) → Claim (halved e) s → 6 ≤ s.model.radius
least_radius e s c = let h : 12 ≤ s.model.radius + s.model.radius = bounded (pos 12) _ _ apart
    (both_near s.model s.model right _ _ refl (near up) (near down)) in omega arith
  where
    near : (j : Jump) → Near s.model right (halved_outcome e j)
    near j = unfold halved_outcome in
        at_near s.model right _ (c.within_radius (functions (jumping j (halved e))) right (given e j))

    apart : natural U *ℚ halved_outcome e up -ℚ natural U *ℚ halved_outcome e down ≡ whole (pos 12)
    apart = ap₂ ◌-ℚ◌ (outcome_up e s c) (outcome_down e s c)
        ∙ ap (λ z. whole (pos 6) +ℚ z) (sym (whole_neg (negsuc 5))) ∙ sym (whole-+ (pos 6) (pos 6))

-- and its range reaches from -6 to 6
pub least_range : (e : ℕ) (s : Summary) → Claim (halved e) s
    → (s.range.low ≤ℤ negsuc 5) × (pos 6 ≤ℤ s.range.high)
least_range e s c = (
  ≤-whole s.range.low (negsuc 5) ((lies down).from ≤≡ outcome_down e s c),
  ≤-whole (pos 6) s.range.high (sym (outcome_up e s c) ≡≤ (lies up).to),
)
  where
    lies : (j : Jump) → Lies (halved_outcome e j) s.range
    lies j = unfold halved_outcome in c.in_range (functions (jumping j (halved e))) right (given e j)

-- so these answers are refuted: h with its own radius, and the radius 3 × U / U
pub own_radius_refuted : (r i : Ends) (x : Mixed)
    → Claim (halved 1) (record {
      model = record { vars = 1; radius = 1; terms = [] };
      range = r;
      integral = i;
      exact = x;
    })
    → ⊥
own_radius_refuted r i x c = omega (arith, least_radius 1 _ c)

pub whole_unit_refuted : (r i : Ends) (x : Mixed)
    → Claim (halved 1) (record {
      model = record { vars = 1; radius = 3; terms = [] };
      range = r;
      integral = i;
      exact = x;
    })
    → ⊥
whole_unit_refuted r i x c = omega (arith, least_radius 1 _ c)

-- if the outcome of h were the quotient's, the claim would be false of this accepted book
unfoldable pub proposal_outcome : Inputs → Point → ℚ
proposal_outcome I x = (outcome_of (outcomes I (halved 100).steps) 1).at x

proposal_up : natural U *ℚ proposal_outcome (functions (jumping up (halved 100))) right -ℚ natural U *ℚ 0ℚ
    ≡ whole (pos 100)
unfolding proposal_outcome halved right outcomes outcomes_after step_outcome step_value input_outcome outcome_of
    coordinate index_of jumping own model_of value polynomial eval height
proposal_up = ap (λ t. natural U *ℚ elim t [ true ↦ 0ℚ | false ↦ 0ℚ +ℚ pos 100 /U ] -ℚ natural U *ℚ 0ℚ) one_above
    ∙ ring 2 ℚR (λ u a. u ⊠ (𝟎 ⊞ a) ⊟ u ⊠ 𝟎) (λ u a. u ⊠ a) refl (natural U) (pos 100 /U) ∙ U_times (pos 100)

pub proposal_refuted : ((I : Inputs) (x : Point) → Given (halved 100) I x
    → At halved_result x (proposal_outcome I x)) → ⊥
unfolding halved_result zero_model
proposal_refuted h = let k : 100 ≤ 6 + 0 = bounded (pos 100) _ _ proposal_up (both_near halved_result (zero_model 1)
    right _ 0ℚ refl (at_near halved_result right _ (h _ right (given 100 up))) (zero_near 1 right)) in omega arith

-- ---- a divisor is nowhere zero: of x / x the claim holds of no answer, however many other variables there are
unfoldable pub by_itself : (others : ℕ) → Book
by_itself v = record { vars = suc v; order = 1; models = []; steps = variable 1 ∷ quotient 0 0 0 0 ∷ [] }

pub zero_divisor_refuted : (v : ℕ) (s : Summary) → Claim (by_itself v) s → ⊥
unfolding by_itself outcomes outcomes_after step_outcome step_value outcome_of coordinate index_of origin
zero_divisor_refuted v s c = c.never_zero (functions (own (by_itself v))) (origin (suc v))
    (own_given (by_itself v) (unfold promises in tt)) 1 0 0 0 0 refl refl
