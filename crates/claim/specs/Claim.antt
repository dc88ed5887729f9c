-- What is claimed of every accepted book; ClaimProof proves it (`claim`). It rests on these definitions, to be read in
-- this order:
--   crate algebra: the fractions, their sum, product and order
--   crate polynomial: polynomials and their value, the box, the integral over it
--   crate numbers: the unit U, rounding
--   crate calculus:
--     Monomial, Terms, Model: a model, and which functions are within it
--     Refusal, Operations, Tests, Book: the run of a book, which gives the last result, its range and its integral
--     Functions: functions of the point, polynomials with fractions for coefficients, what lies between two ends
--   Outcome: the exact outcome, a function of the point and, where it is made as one, a polynomial
use Rattle.std.specs.Prelude.{◌≡◌, Bool, ℕ, ◌<◌, T, length}
use Rattle.std.proofs.Math.Option.{some}
use Rattle.std.proofs.Math.ListN.{get_elem?}
use Rattle.calculus.specs.Model.{Point, InBox, At, Within}
use Rattle.calculus.specs.Book.{substitute, quotient, Book, model_of, Summary}
use Rattle.calculus.specs.Functions.{Lies, 0ℚ, with_coordinate, ℚPolynomial, value_of, exact_integral}
use Rattle.claim.specs.Outcome.{Outcome, Inputs, functions, polynomials, input_outcome, outcome_of, outcomes}
use Rattle.claim.specs.Outcome.{outcome, no_quotient, no_antiderivative, no_quotient_feeds}

-- for each model of the book, the input's function is within it
unfoldable pub AllWithin : Book → Inputs → Type 0
AllWithin book I = (a : ℕ) → a < length book.models → Within (input_outcome I a).at (model_of book a)

-- what is promised, by the steps alone: to any functions where no step is an antiderivative, and to polynomials where
-- no quotient feeds an antiderivative
unfoldable pub promised : Book → Inputs → Bool
promised book (functions F) = no_antiderivative book.steps
promised book (polynomials Q) = no_quotient_feeds book.steps

-- what an exact outcome is made from: functions or polynomials within the models, as promised, and a point of the box
pub record Given (book : Book) (I : Inputs) (x : Point) : Type 0 where
  pub inputs : AllWithin book I
  pub as_promised : T (promised book I)
  pub point : InBox book.vars x

-- an outcome that is made as a polynomial, and has its value at every point of n coordinates
pub record IsPolynomial (n : ℕ) (o : Outcome) : Type 0 where
  pub polynomial : ℚPolynomial
  pub made : o.polynomial ≡ some polynomial
  pub same : (x : Point) → length x ≡ n → o.at x ≡ value_of polynomial x

-- of a book whose run gives the summary s
pub record Claim (book : Book) (s : Summary) : Type 0 where
  -- the outcome differs from P, the value of the result's polynomial, by at most e/U
  pub within_radius : (I : Inputs) (x : Point) → Given book I x → At s.model x ((outcome I book.steps).at x)
  -- the outcome times U is at least the low and at most the high end of the range
  pub in_range : (I : Inputs) (x : Point) → Given book I x → Lies ((outcome I book.steps).at x) s.range
  -- where step i is a substitution, the point whose coordinate v is the outcome of step b is a point of the box again
  pub stays_in_box : (I : Inputs) (x : Point) → Given book I x
      → (i a b v : ℕ) → get_elem? book.steps i ≡ some (substitute a b v)
      → InBox book.vars (with_coordinate v ((outcome_of (outcomes I book.steps) b).at x) x)
  -- where step i is a quotient, the outcome of step b, by which it divides, is not zero
  pub never_zero : (I : Inputs) (x : Point) → Given book I x
      → (i a b h w : ℕ) → get_elem? book.steps i ≡ some (quotient a b h w)
      → (outcome_of (outcomes I book.steps) b).at x ≡ 0ℚ → ⊥
  -- if every input is a polynomial and no step is a quotient, the outcome is a polynomial
  pub outcome_is_polynomial : (Q : ℕ → ℚPolynomial) → T (no_quotient book.steps)
      → IsPolynomial book.vars (outcome (polynomials Q) book.steps)
  -- and its integral over the box times U is at least the low and at most the high integral end
  pub integral_in_ends : (Q : ℕ → ℚPolynomial) → T (no_quotient book.steps) → AllWithin book (polynomials Q)
      → (q : ℚPolynomial) → (outcome (polynomials Q) book.steps).polynomial ≡ some q
      → Lies (exact_integral book.vars q) s.integral
