-- Operations on curves, and conversion to and from models in powers.
use Rattle.std.specs.Prelude.{[], ◌∷◌, map, ℕ, suc, ◌+◌, ◌*◌, leb, ℤ, pos, neg_ℤ, ◌+ℤ◌, ◌-ℤ◌, ◌*ℤ◌, take, drop, replicate, get_or}
use Rattle.polynomial.specs.Polynomial.{exponent}
use Rattle.numbers.specs.Division.{divided_up, nearest}
use Rattle.numbers.specs.Fixed.{U, span_limit}
use Rattle.calculus.specs.Terms.{Terms, term, drop_zeros}
use Rattle.calculus.specs.Model.{Model}
use Rattle.calculus.specs.Model as M
use Rattle.calculus.specs.Refusal.{over_span, Answer, accepted, require}
use Rattle.calculus.specs.Operations.{Ends}
use Rattle.chebyshev.specs.Coefficients.{Row, sum, size, add_at, products_from}
use Rattle.chebyshev.specs.PowerRows.{places, zeros, combine}
use Rattle.chebyshev.specs.Tables.{chebyshev_table, power_scale, power_table}
use Rattle.chebyshev.specs.Curve.{Curve, span}

-- last: 7 for a span above 2^30
unfoldable pub limited_curve : Curve → Answer Curve
limited_curve c = require (leb (span c) span_limit) over_span (accepted c)

-- ---- negate, add, subtract
-- all signs turned
unfoldable pub negate : Curve → Curve
negate f = record { coefficients = map neg_ℤ f.coefficients; radius = f.radius }

-- coefficients and radii added
unfoldable pub added : (f g : Curve) → Curve
added f g = record {
  coefficients = sum f.coefficients g.coefficients;
  radius = f.radius + g.radius;
}

-- within the limit
unfoldable pub add : (f g : Curve) → Answer Curve
add f g = limited_curve (added f g)

-- add the negated second
unfoldable pub subtract : (f g : Curve) → Answer Curve
subtract f g = add f (negate g)

-- ---- coefficients z over a divisor d, and an error E in the same parts
-- the residuals of what is kept
unfoldable pub residuals : (d : ℕ) → Row → ℕ
residuals d z = size (map (λ a. a -ℤ nearest a d *ℤ pos d) (take places z))

-- the size of each coefficient above degree 15
unfoldable pub swept : Row → ℕ
swept z = size (drop places z)

-- each coefficient up to degree 15 to nearest; the residuals, what is above and E enter the radius, rounded up once
unfoldable pub rounded : (d E : ℕ) (z : Row) → Curve
rounded d E z = record {
  coefficients = map (λ a. nearest a d) (take places z);
  radius = divided_up (E + residuals d z + swept z) d;
}

-- ---- multiply
-- twice each coefficient of the product, in units of 1/U²: degrees go up to 30
unfoldable pub products : (f g : Curve) → Row
products f g = products_from 0 f.coefficients g.coefficients (replicate 31 (pos 0))

-- the radius cross terms: A × e2, B × e1 and e1 × e2
unfoldable pub carried : (f g : Curve) → ℕ
carried f g = size f.coefficients * g.radius + size g.coefficients * f.radius + f.radius * g.radius

-- by T_i × T_j = (T_(i+j) + T_|i-j|) / 2
unfoldable pub multiplied : (f g : Curve) → Curve
multiplied f g = rounded (2 * U) (2 * carried f g) (products f g)

-- within the limit
unfoldable pub multiply : (f g : Curve) → Answer Curve
multiply f g = limited_curve (multiplied f g)

-- ---- range
-- the constant coefficient
unfoldable pub constant_part : Curve → ℤ
constant_part f = get_or f.coefficients 0 (pos 0)

-- the sum of the other |c| and e
unfoldable pub variation : Curve → ℕ
variation f = size (drop 1 f.coefficients) + f.radius

-- the constant coefficient, minus and plus the sum of the other |c| and e
unfoldable pub range : Curve → Ends
range f = record { low = constant_part f -ℤ pos (variation f); high = constant_part f +ℤ pos (variation f) }

-- ---- conversion
-- a row as terms in one variable, powers from k on
unfoldable pub terms_from : (k : ℕ) → Row → Terms
terms_from k [] = []
terms_from k (a ∷ l) = term a (k ∷ []) ∷ terms_from (suc k) l

-- exactly, by the table; zeros are dropped
unfoldable pub in_powers : Curve → Model
in_powers f = record {
  vars = 1;
  radius = f.radius;
  terms = drop_zeros (terms_from 0 (combine f.coefficients chebyshev_table));
}

-- last: 7 for a span above 2^30; at most 16 terms are left, so that 8 cannot be
unfoldable pub to_powers : Curve → Answer Model
to_powers f = require (leb (M.span (in_powers f)) span_limit) over_span (accepted (in_powers f))

-- the terms of a model in one variable as a row of sixteen
unfoldable pub row_of : Terms → Row
row_of [] = zeros
row_of (t ∷ p) = add_at (exponent 0 t.exponents) t.coefficient (row_of p)

-- by the table, over 2^14: each coefficient to nearest; all residuals enter the radius, rounded up once
unfoldable pub in_chebyshev : Model → Curve
in_chebyshev f = rounded power_scale (power_scale * f.radius) (combine (row_of f.terms) power_table)

-- within the limit
unfoldable pub from_powers : Model → Answer Curve
from_powers f = limited_curve (in_chebyshev f)
