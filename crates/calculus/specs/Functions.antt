-- Functions of the point, polynomials with fractions for coefficients, and what lies between two ends.
use Rattle.std.specs.Prelude.{ℕ, pos, get_or}
use Rattle.numbers.proofs.algebra.Rational.{ℚ, ◌*ℚ◌, whole, ◌≤ℚ◌}
use Rattle.numbers.proofs.algebra.RationalRing.{ℚR}
use Rattle.numbers.proofs.algebra.RationalField.{ℚF}
use Rattle.polynomial.specs.Polynomial.{Polynomial, eval, replace}
use Rattle.polynomial.specs.Integral as I
use Rattle.polynomial.specs.Antiderivative.{antiderivative_in}
use Rattle.numbers.specs.Fixed.{U}
use Rattle.calculus.specs.Monomial.{index_of}
use Rattle.calculus.specs.Model.{Point}
use Rattle.calculus.specs.Operations.{Ends}

-- from points to fractions. ℚ is a quotient, so fractions that are equal by cross-multiplying are one and the same:
-- every function gives one value at equal points, however their coordinates are written.
abbrev pub Function : Type 0
Function = Point → ℚ

-- the fraction 0
abbrev pub 0ℚ : ℚ
0ℚ = whole (pos 0)

-- coordinate v; test 6 keeps the default out of reach
unfoldable pub coordinate : (v : ℕ) → Function
coordinate v x = get_or x (index_of v) 0ℚ

-- the point whose coordinate v is y and whose others are those of x
unfoldable pub with_coordinate : (v : ℕ) (y : ℚ) → Point → Point
with_coordinate v y x = replace (index_of v) y x

-- any list of terms with fractions for coefficients. Exponents after the n-th count neither in the value nor in the
-- integral, and missing ones are 0: the polynomials in n variables are among these, so what holds of all holds of them.
abbrev pub ℚPolynomial : Type 0
ℚPolynomial = Polynomial ℚR

-- its value
unfoldable pub value_of : ℚPolynomial → Function
value_of q x = eval ℚR q x

-- its integral over the box, summed over its terms
unfoldable pub exact_integral : (n : ℕ) → ℚPolynomial → ℚ
exact_integral = I.integral ℚF

-- its antiderivative in variable v: zero wherever that variable is 0
unfoldable pub antiderivative_of : (v : ℕ) → ℚPolynomial → ℚPolynomial
antiderivative_of v = antiderivative_in ℚF (index_of v)

-- y times U is at least the low and at most the high end
pub record Lies (y : ℚ) (e : Ends) : Type 0 where
  pub from : whole e.low ≤ℚ whole (pos U) *ℚ y
  pub to : whole (pos U) *ℚ y ≤ℚ whole e.high
