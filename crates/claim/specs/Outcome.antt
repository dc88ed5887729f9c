-- The exact outcome of a book's steps: nothing is rounded and nothing comes from what the run keeps.
use Rattle.std.specs.Prelude.{Bool, true, false, not, ◌&&◌, ◌||◌, List, [], ◌∷◌, ◌++◌, ℕ, pos, get_or}
use Rattle.std.proofs.Math.Option.{Option, some, none}
use Rattle.algebra.proofs.Rational.{◌+ℚ◌, ◌*ℚ◌, negℚ, ◌/ℚ◌, whole}
use Rattle.algebra.proofs.RationalRing.{ℚR}
use Rattle.polynomial.specs.Polynomial as P
use Rattle.calculus.specs.Monomial.{index_of, single}
use Rattle.calculus.specs.Model.{◌/U, ◌-ℚ◌}
use Rattle.calculus.specs.Book.{Step, input, constant, variable, negate, add, subtract, multiply, substitute}
use Rattle.calculus.specs.Book.{sweep, quotient, antiderivative, operands, last}
use Rattle.calculus.specs.Functions.{Function, 0ℚ, coordinate, with_coordinate, ℚPolynomial, value_of}
use Rattle.calculus.specs.Functions.{antiderivative_of}

-- ---- outcomes
-- a function of the point and, where it is made as one, a polynomial
pub record Outcome : Type 0 where
  pub at : Function
  pub polynomial : Option ℚPolynomial

-- what the outcomes are made from: a function F a for each model a, or a polynomial Q a
pub data Inputs : Type 0 where
  functions : (F : ℕ → Function) → Inputs
  polynomials : (Q : ℕ → ℚPolynomial) → Inputs

-- that of model a
unfoldable pub input_outcome : Inputs → (a : ℕ) → Outcome
input_outcome (functions F) a = record { at = F a; polynomial = none }
input_outcome (polynomials Q) a = record { at = value_of (Q a); polynomial = some (Q a) }

-- with a polynomial that is there
unfoldable pub mapped : (ℚPolynomial → ℚPolynomial) → Option ℚPolynomial → Option ℚPolynomial
mapped f none = none
mapped f (some p) = some (f p)

-- with two that are there
unfoldable pub joined : (ℚPolynomial → ℚPolynomial → ℚPolynomial) → (p q : Option ℚPolynomial)
    → Option ℚPolynomial
joined f none q = none
joined f (some p) q = mapped (f p) q

-- the value of a polynomial that is there, else 0: nothing is promised of an antiderivative of what is no polynomial
unfoldable pub value_of_made : Option ℚPolynomial → Function
value_of_made none x = 0ℚ
value_of_made (some q) x = value_of q x

-- the value of a step's outcome at the point, where f a is the outcome of step a
unfoldable pub step_value : Inputs → (f : ℕ → Outcome) → Step → Function
step_value I f (input a) x = (input_outcome I a).at x
step_value I f (constant value) x = value /U
step_value I f (variable v) x = coordinate v x
step_value I f (negate a) x = negℚ ((f a).at x)
step_value I f (add a b) x = (f a).at x +ℚ (f b).at x
step_value I f (subtract a b) x = (f a).at x -ℚ (f b).at x
step_value I f (multiply a b) x = (f a).at x *ℚ (f b).at x
step_value I f (substitute a b v) x = (f a).at (with_coordinate v ((f b).at x) x)
step_value I f (sweep a value) x = (f a).at x
step_value I f (quotient a b h w) x = (f a).at x /ℚ (f b).at x
step_value I f (antiderivative a v) x = value_of_made (mapped (antiderivative_of v) (f a).polynomial) x

-- the same steps done on polynomials: the polynomial of a step's outcome, from those of its operands; a quotient has
-- none, and that of a variable ends with its exponent, later ones are 0
unfoldable pub step_polynomial : Inputs → (f : ℕ → Outcome) → Step → Option ℚPolynomial
step_polynomial I f (input a) = (input_outcome I a).polynomial
step_polynomial I f (constant value) = some (P.constant ℚR (value /U))
step_polynomial I f (variable v) = some (record { coefficient = whole (pos 1); exponents = single v v } ∷ [])
step_polynomial I f (negate a) = mapped (P.negation ℚR) (f a).polynomial
step_polynomial I f (add a b) = joined (P.sum ℚR) (f a).polynomial (f b).polynomial
step_polynomial I f (subtract a b) = joined (λ p q. P.sum ℚR p (P.negation ℚR q)) (f a).polynomial (f b).polynomial
step_polynomial I f (multiply a b) = joined (P.product ℚR) (f a).polynomial (f b).polynomial
step_polynomial I f (substitute a b v) =
    joined (λ p q. P.substitute ℚR (index_of v) q p) (f a).polynomial (f b).polynomial
step_polynomial I f (sweep a value) = (f a).polynomial
step_polynomial I f (quotient a b h w) = none
step_polynomial I f (antiderivative a v) = mapped (antiderivative_of v) (f a).polynomial

-- ---- the steps in order
-- the outcome of a step
unfoldable pub step_outcome : Inputs → (f : ℕ → Outcome) → Step → Outcome
step_outcome I f s = record { at = step_value I f s; polynomial = step_polynomial I f s }

-- 0 everywhere
unfoldable pub zero_outcome : Outcome
zero_outcome = record { at = λ x. 0ℚ; polynomial = some [] }

-- the outcome of step a, from the outcomes so far; test 6 keeps the default out of reach
unfoldable pub outcome_of : List Outcome → (a : ℕ) → Outcome
outcome_of os a = get_or os a zero_outcome

-- those of steps in order, each after the outcomes so far
unfoldable pub outcomes_after : Inputs → List Outcome → List Step → List Outcome
outcomes_after I os [] = os
outcomes_after I os (s ∷ l) = outcomes_after I (os ++ (step_outcome I (outcome_of os) s ∷ [])) l

-- those of all steps
unfoldable pub outcomes : Inputs → List Step → List Outcome
outcomes I = outcomes_after I []

-- that of the last
unfoldable pub outcome : Inputs → List Step → Outcome
outcome I l = last zero_outcome (outcomes I l)

-- ---- which steps are quotients, which are antiderivatives, and what feeds them
-- a quotient
unfoldable pub is_quotient : Step → Bool
is_quotient (input a) = false
is_quotient (constant value) = false
is_quotient (variable v) = false
is_quotient (negate a) = false
is_quotient (add a b) = false
is_quotient (subtract a b) = false
is_quotient (multiply a b) = false
is_quotient (substitute a b v) = false
is_quotient (sweep a value) = false
is_quotient (quotient a b h w) = true
is_quotient (antiderivative a v) = false

-- an antiderivative
unfoldable pub is_antiderivative : Step → Bool
is_antiderivative (input a) = false
is_antiderivative (constant value) = false
is_antiderivative (variable v) = false
is_antiderivative (negate a) = false
is_antiderivative (add a b) = false
is_antiderivative (subtract a b) = false
is_antiderivative (multiply a b) = false
is_antiderivative (substitute a b v) = false
is_antiderivative (sweep a value) = false
is_antiderivative (quotient a b h w) = false
is_antiderivative (antiderivative a v) = true

-- each step passes a test
unfoldable pub each_step : (Step → Bool) → List Step → Bool
each_step f [] = true
each_step f (s ∷ l) = f s && each_step f l

-- no step is a quotient
unfoldable pub no_quotient : List Step → Bool
no_quotient = each_step (λ s. not (is_quotient s))

-- no step is an antiderivative
unfoldable pub no_antiderivative : List Step → Bool
no_antiderivative = each_step (λ s. not (is_antiderivative s))

-- a mark for each step; one of these steps is marked
unfoldable pub any_marked : List Bool → List ℕ → Bool
any_marked marks [] = false
any_marked marks (a ∷ l) = get_or marks a false || any_marked marks l

-- a quotient feeds the step: one of its operands is marked
unfoldable pub is_fed : List Bool → Step → Bool
is_fed marks s = any_marked marks (operands s)

-- the marks of further steps after those so far: quotients, and what one feeds, directly or through other steps
unfoldable pub marks_after : List Bool → List Step → List Bool
marks_after marks [] = marks
marks_after marks (s ∷ l) = marks_after (marks ++ ((is_quotient s || is_fed marks s) ∷ [])) l

-- no quotient feeds an antiderivative, directly or through other steps
unfoldable pub no_quotient_feeds : List Step → Bool
no_quotient_feeds l = each_step (λ s. not (is_antiderivative s && is_fed (marks_after [] l) s)) l
