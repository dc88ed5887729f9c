-- The single calls on curves: their tests in order, then the operation. The numbers are the refusals, in order.
use Rattle.std.specs.Prelude.{eqb}
use Rattle.calculus.specs.Model.{Model, most_degree}
use Rattle.calculus.specs.Model as M
use Rattle.calculus.specs.Refusal.{bad_model, not_one_variable, Result, done, at_place, require_at, Returned, returned}
use Rattle.calculus.specs.Operations.{Ends}
use Rattle.chebyshev.specs.Curve.{Curve, zero_curve, sound}
use Rattle.chebyshev.specs.CurveOperations as Op

-- ---- calls of one curve
-- 5
unfoldable pub call_negate : Curve → Result Curve
call_negate f = require_at 0 (sound f) bad_model (done (Op.negate f))

-- 5
unfoldable pub call_range : Curve → Result Ends
call_range f = require_at 0 (sound f) bad_model (done (Op.range f))

-- ---- calls of two curves
-- 5 at place 0 and at place 1
unfoldable pub require_two : {A : Type 0} → (f g : Curve) → Result A → Result A
require_two f g a = require_at 0 (sound f) bad_model (require_at 1 (sound g) bad_model a)

-- 5, 5, 7
unfoldable pub call_add : (f g : Curve) → Result Curve
call_add f g = require_two f g (at_place 0 (Op.add f g))

-- 5, 5, 7
unfoldable pub call_subtract : (f g : Curve) → Result Curve
call_subtract f g = require_two f g (at_place 0 (Op.subtract f g))

-- 5, 5, 7
unfoldable pub call_multiply : (f g : Curve) → Result Curve
call_multiply f g = require_two f g (at_place 0 (Op.multiply f g))

-- ---- conversion
-- 5, 7
unfoldable pub call_to_powers : Curve → Result Model
call_to_powers f = require_at 0 (sound f) bad_model (at_place 0 (Op.to_powers f))

-- 5, 13, 7
unfoldable pub call_from_powers : Model → Result Curve
call_from_powers f =
    require_at 0 (M.sound most_degree f) bad_model
    (require_at 0 (eqb f.vars 1) not_one_variable
    (at_place 0 (Op.from_powers f)))

-- ---- what a call hands back: with a refusal all zeros
unfoldable pub returned_curve : Result Curve → Returned Curve
returned_curve = returned zero_curve
