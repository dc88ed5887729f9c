-- A curve that is delivered in doubles (request 13): which functions are within it, and the model that it becomes.
use Rattle.std.specs.Prelude.{Bool, true, false, cond, not, ◌&&◌, [], ◌∷◌, ℕ, ◌+◌, ◌*◌, ◌%◌, Float, ℤ, pos, neg_ℤ, nat_abs, ◌*ℤ◌}
use Rattle.std.specs.Float.{nan, inf, fin}
use Rattle.std.specs.Float.Ieee.{up, down, lt}
use Rattle.algebra.proofs.Rational.{ℚ, ◌+ℚ◌, ◌*ℚ◌, ◌≤ℚ◌, whole, ◌÷◌}
use Rattle.numbers.specs.Division.{divided_up, nearest}
use Rattle.numbers.specs.Fixed.{U}
use Rattle.calculus.specs.Terms.{term, drop_zeros}
use Rattle.calculus.specs.Model.{Model, distance, Point, InBox}
use Rattle.calculus.specs.Refusal.{bad_double, Result, at_place, require_at}
use Rattle.calculus.specs.Operations.{limited, one_if_any}
use Rattle.calculus.specs.Functions.{coordinate}

-- three coefficients, for powers 0, 1 and 2 of one variable, and a radius
pub record Delivery : Type 0 where
  pub c0 : Float
  pub c1 : Float
  pub c2 : Float
  pub radius : Float

-- ---- the exact value of a double: `fin s m e` is m × 2^e, negative where s is true, and 2^e is up e / down e. Which
-- bits these are is DoubleBits' matter
-- a number with its sign; minus zero is zero
unfoldable pub signed : Bool → ℕ → ℤ
signed s n = cond s (neg_ℤ (pos n)) (pos n)

-- the value's numerator; what is not finite has none
unfoldable pub numerator : Float → ℤ
numerator nan = pos 0
numerator (inf s) = pos 0
numerator (fin s m e) = signed s (m * up e)

-- its denominator
unfoldable pub denominator : Float → ℕ
denominator nan = 1
denominator (inf s) = 1
denominator (fin s m e) = down e

-- the value
unfoldable pub exact : Float → ℚ
exact x = whole (numerator x) ÷ denominator x

-- neither a NaN nor an infinity
unfoldable pub is_finite : Float → Bool
is_finite nan = false
is_finite (inf s) = false
is_finite (fin s m e) = true

-- below 0, as IEEE 754 compares: minus zero is not
unfoldable pub is_negative : Float → Bool
is_negative x = lt x (fin false 0 (pos 0))

-- ---- which functions are within theirs
-- c0 + c1 x + c2 x², exactly
unfoldable pub their_value : Delivery → Point → ℚ
their_value c x =
    exact c.c0 +ℚ exact c.c1 *ℚ coordinate 1 x +ℚ exact c.c2 *ℚ (coordinate 1 x *ℚ coordinate 1 x)

-- a function that differs from it by at most the radius, at every point of the box
unfoldable pub WithinTheirs : (Point → ℚ) → Delivery → Type 0
WithinTheirs f c = (x : Point) → InBox 1 x → distance (f x) (their_value c x) ≤ℚ exact c.radius

-- ---- the model
-- U times a double, over the double's denominator
unfoldable pub units : Float → ℤ
units x = numerator x *ℤ pos U

-- each coefficient times U goes to the nearest whole number, ties to even, from the double's exact value
unfoldable pub coefficient : Float → ℤ
coefficient x = nearest (units x) (denominator x)

-- 1 for a coefficient that is inexact: U times it is no whole number
unfoldable pub inexact : Float → ℕ
inexact x = one_if_any (nat_abs (units x) % denominator x)

-- U times a radius, rounded up
unfoldable pub radius_up : Float → ℕ
radius_up x = divided_up (nat_abs (units x)) (denominator x)

-- coefficients that are 0 leave no term
unfoldable pub model_of : (c0 c1 c2 : ℤ) (e : ℕ) → Model
model_of c0 c1 c2 e = record {
  vars = 1;
  radius = e;
  terms = drop_zeros (term c0 (0 ∷ []) ∷ term c1 (1 ∷ []) ∷ term c2 (2 ∷ []) ∷ []);
}

-- the radius is U times theirs rounded up, plus 1 for each inexact coefficient
unfoldable pub converted : Delivery → Model
converted c =
    model_of (coefficient c.c0) (coefficient c.c1) (coefficient c.c2)
    (radius_up c.radius + inexact c.c0 + inexact c.c1 + inexact c.c2)

-- ---- the call
-- every value is finite and the radius is not negative
unfoldable pub deliverable : Delivery → Bool
deliverable c =
    is_finite c.c0
    && is_finite c.c1
    && is_finite c.c2
    && is_finite c.radius
    && not (is_negative c.radius)

-- 16, then 7
unfoldable pub call_doubles : Delivery → Result Model
call_doubles c = require_at 0 (deliverable c) bad_double (at_place 0 (limited (converted c)))
