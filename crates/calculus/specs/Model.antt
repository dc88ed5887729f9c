-- A model: when it is sound, and which functions are within it.
use Rattle.std.specs.Prelude.{Bool, ◌&&◌, List, [], ◌∷◌, map, ℕ, ◌+◌, eqb, leb, ℤ, pos, length}
use Rattle.numbers.specs.algebra.Ordered.{abs}
use Rattle.numbers.proofs.algebra.Rational.{ℚ, ◌+ℚ◌, negℚ, ◌≤ℚ◌, whole, ◌÷◌}
use Rattle.numbers.proofs.algebra.RationalRing.{ℚR}
use Rattle.numbers.proofs.algebra.RationalOrder.{ℚO}
use Rattle.polynomial.specs.Polynomial.{Polynomial, eval}
use Rattle.polynomial.specs.Box.{Box}
use Rattle.numbers.specs.Fixed.{U, span_limit}
use Rattle.calculus.specs.Monomial.{degree, zeros}
use Rattle.calculus.specs.Terms.{Terms, term, size, every, nonzero, rising}

-- n variables, the radius e and the terms
pub record Model : Type 0 where
  pub vars : ℕ
  pub radius : ℕ
  pub terms : Terms

-- no terms and radius 0
unfoldable pub zero_model : ℕ → Model
zero_model n = record { vars = n; radius = 0; terms = [] }

-- one term of key 0, coefficient U
unfoldable pub one_model : ℕ → Model
one_model n = record { vars = n; radius = 0; terms = term (pos U) (zeros n) ∷ [] }

-- ---- soundness
-- n is at most 8
unfoldable pub most_vars : ℕ
most_vars = 8

-- the total degree is at most 15
unfoldable pub most_degree : ℕ
most_degree = 15

-- a model has at most 64 terms
unfoldable pub most_terms : ℕ
most_terms = 64

-- i is a number from a to b
unfoldable pub between : (a b : ℕ) → ℕ → Bool
between a b i = leb a i && leb i b

-- the span (document 01's term): the sum of all |c| plus e
unfoldable pub span : Model → ℕ
span m = size m.terms + m.radius

-- a monomial in n variables of total degree at most d
unfoldable pub fits : (n d : ℕ) → List ℕ → Bool
fits n d k = eqb (length k) n && leb (degree k) d

-- the rules of a model, with degrees up to d; the first is `vars_sound` of Tests, which comes after
unfoldable pub sound : (d : ℕ) → Model → Bool
sound d m =
    between 1 most_vars m.vars
    && leb (length m.terms) most_terms
    && every (λ k c. fits m.vars d k) m.terms
    && nonzero m.terms
    && rising m.terms
    && leb (span m) span_limit

-- ---- what it stands for
infix 90 ◌/U
-- the fraction z / U
unfoldable pub ◌/U : ℤ → ℚ
z /U = whole z ÷ U

infixl 60 ◌-ℚ◌
-- x minus y
abbrev pub ◌-ℚ◌ : ℚ → ℚ → ℚ
x -ℚ y = x +ℚ negℚ y

-- |x - y|
unfoldable pub distance : ℚ → ℚ → ℚ
distance x y = abs ℚO (x -ℚ y)

-- the coordinates of a point, that of variable 1 first
abbrev pub Point : Type 0
Point = List ℚ

-- a point of the box: n coordinates, each from -1 to 1
abbrev pub InBox : (n : ℕ) → Point → Type 0
InBox = Box ℚO

-- the polynomial of a model: a coefficient c stands for c/U
unfoldable pub polynomial : Model → Polynomial ℚR
polynomial m = map (λ t. record { coefficient = t.coefficient /U; exponents = t.exponents }) m.terms

-- P: its value at a point
unfoldable pub value : Model → Point → ℚ
value m x = eval ℚR (polynomial m) x

-- y differs from P by at most e/U
unfoldable pub At : Model → Point → ℚ → Type 0
At m x y = distance y (value m x) ≤ℚ pos m.radius /U

-- a function is within the model if its value does so at every point of the box
unfoldable pub Within : (Point → ℚ) → Model → Type 0
Within f m = (x : Point) → InBox m.vars x → At m x (f x)
