-- A curve: the model form in Chebyshev polynomials of one variable, when it is sound, and what is within it.
use Rattle.std.specs.Prelude.{Bool, ◌&&◌, ℕ, ◌+◌, eqb, leb, pos, length}
use Rattle.algebra.proofs.Rational.{ℚ, ◌≤ℚ◌, ◌÷◌}
use Rattle.algebra.proofs.RationalRing.{ℚR}
use Rattle.numbers.specs.Fixed.{U, span_limit}
use Rattle.calculus.specs.Model.{◌/U, distance, Point, InBox}
use Rattle.calculus.specs.Functions.{coordinate}
use Rattle.chebyshev.specs.Recurrence.{chebyshev}
use Rattle.chebyshev.specs.Coefficients.{Row, size}
use Rattle.chebyshev.specs.Coefficients as C
use Rattle.chebyshev.specs.PowerRows.{places, zeros}

-- the coefficients of T_0 to T_15, in units of 1/U, and the radius e
pub record Curve : Type 0 where
  pub coefficients : Row
  pub radius : ℕ

-- all zeros
unfoldable pub zero_curve : Curve
zero_curve = record { coefficients = zeros; radius = 0 }

-- the span: the sum of all |c| plus e
unfoldable pub span : Curve → ℕ
span c = size c.coefficients + c.radius

-- sixteen coefficients, the span at most 2^30
unfoldable pub sound : Curve → Bool
sound c = eqb (length c.coefficients) places && leb (span c) span_limit

-- ---- what it stands for
-- the sum of all c T_k(x), with the coefficients themselves for those of units
abbrev pub series : Row → ℚ → ℚ
series p x = C.value ℚR (chebyshev ℚR x) 0 p

-- P: the value at x, where a coefficient c stands for c/U
unfoldable pub value : Curve → ℚ → ℚ
value c x = series c.coefficients x ÷ U

-- y differs from P by at most e/U
unfoldable pub At : Curve → ℚ → ℚ → Type 0
At c x y = distance y (value c x) ≤ℚ pos c.radius /U

-- a function is within the curve if its value does so at every point of the box, which has one coordinate
unfoldable pub Within : (Point → ℚ) → Curve → Type 0
Within f c = (x : Point) → InBox 1 x → At c (coordinate 1 x) (f x)
