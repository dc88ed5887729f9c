-- The single calls: their tests in order, then the operation. The numbers are those of the refusals, in order.
use Rattle.std.specs.Prelude.{Bool, ◌&&◌, List, ℕ, min, eqb, ℤ, nat_abs, take, drop}
use Rattle.calculus.specs.Model.{Model, zero_model, most_degree, sound}
use Rattle.calculus.specs.Refusal.{bad_limits, bad_model, bad_step, leaves_box, variables_differ, Result, done}
use Rattle.calculus.specs.Refusal.{at_place, require_at, Returned, returned}
use Rattle.calculus.specs.Operations as Op
use Rattle.calculus.specs.Operations.{Ends, zero_ends, Integral, zero_integral}
use Rattle.calculus.specs.Tests.{vars_sound, order_sound, constant_sound, variable_sound, threshold_sound}
use Rattle.calculus.specs.Tests.{all_zero, all_in_unit}

-- ---- the question whether a struct holds a model
-- with degrees up to d, and never above 15
unfoldable pub call_sound : (d : ℕ) → Model → Bool
call_sound d = sound (min d most_degree)

-- ---- calls that are handed n
-- 3, 6
unfoldable pub call_constant : (n : ℕ) (v : ℤ) → Result Model
call_constant n v =
    require_at 0 (vars_sound n) bad_limits
    (require_at 0 (constant_sound v) bad_step
    (done (Op.constant n v)))

-- 3, 6
unfoldable pub call_variable : (n i : ℕ) → Result Model
call_variable n i =
    require_at 0 (vars_sound n) bad_limits
    (require_at 0 (variable_sound n i) bad_step
    (done (Op.variable n i)))

-- ---- calls of one model: they take no order, so degrees go up to 15
-- 5
unfoldable pub call_negate : Model → Result Model
call_negate f = require_at 0 (sound most_degree f) bad_model (done (Op.negate f))

-- 5, 6
unfoldable pub call_sweep : (t : ℤ) → Model → Result Model
call_sweep t f =
    require_at 0 (sound most_degree f) bad_model
    (require_at 0 (threshold_sound t) bad_step
    (done (Op.sweep (nat_abs t) f)))

-- 5
unfoldable pub call_range : Model → Result Ends
call_range f = require_at 0 (sound most_degree f) bad_model (done (Op.range f))

-- 5
unfoldable pub call_integral : Model → Result Integral
call_integral f = require_at 0 (sound most_degree f) bad_model (done (Op.whole_integral f))

-- 5, 6 for a coordinate above n, 9 for one of the first n, then what the substitutions give: there are eight
-- coordinates in the code, and evaluation reads the first n
unfoldable pub call_evaluate : List ℤ → Model → Result Ends
call_evaluate Xs f =
    require_at 0 (sound most_degree f) bad_model
    (require_at 0 (all_zero (drop f.vars Xs)) bad_step
    (require_at 0 (all_in_unit (take f.vars Xs)) leaves_box
    (at_place 0 (Op.evaluate (take f.vars Xs) f))))

-- ---- the call of one model that takes an order
-- 3, 5, 6: the order applies to the model
unfoldable pub call_antiderivative : (d i : ℕ) → Model → Result Model
call_antiderivative d i f =
    require_at 0 (order_sound d) bad_limits
    (require_at 0 (sound d f) bad_model
    (require_at 0 (variable_sound f.vars i) bad_step
    (done (Op.antiderivative d i f))))

-- ---- calls of two models
-- 5 at place 0 and at place 1, 10
unfoldable pub require_two : {A : Type 0} → (d : ℕ) (f g : Model) → Result A → Result A
require_two d f g a =
    require_at 0 (sound d f) bad_model
    (require_at 1 (sound d g) bad_model
    (require_at 0 (eqb f.vars g.vars) variables_differ a))

-- 5, 5, 10, 8, 7
unfoldable pub call_add : (f g : Model) → Result Model
call_add f g = require_two most_degree f g (at_place 0 (Op.add f g))

-- 5, 5, 10, 8, 7
unfoldable pub call_subtract : (f g : Model) → Result Model
call_subtract f g = require_two most_degree f g (at_place 0 (Op.subtract f g))

-- 3, 5, 5, 10, 8, 7: the order applies to the models
unfoldable pub call_multiply : (d : ℕ) (f g : Model) → Result Model
call_multiply d f g = require_at 0 (order_sound d) bad_limits (require_two d f g (at_place 0 (Op.multiply d f g)))

-- 3, 5, 5, 10, 6, 9, then the first inner refusal
unfoldable pub call_substitute : (d i : ℕ) (f g : Model) → Result Model
call_substitute d i f g =
    require_at 0 (order_sound d) bad_limits
    (require_two d f g
    (require_at 0 (variable_sound f.vars i) bad_step
    (at_place 0 (Op.substitute d i f g))))

-- ---- the call of four models
-- 5 at places 0 to 3, 10
unfoldable pub require_four : {A : Type 0} → (d : ℕ) (f g h w : Model) → Result A → Result A
require_four d f g h w a =
    require_at 0 (sound d f) bad_model (require_at 1 (sound d g) bad_model
    (require_at 2 (sound d h) bad_model (require_at 3 (sound d w) bad_model
    (require_at 0 (eqb f.vars g.vars && eqb f.vars h.vars && eqb f.vars w.vars) variables_differ a))))

-- 3, 5 four times, 10, then the first 8 or 7 of the forms, 12, 7
unfoldable pub call_quotient : (d : ℕ) (f g h w : Model) → Result Model
call_quotient d f g h w =
    require_at 0 (order_sound d) bad_limits (require_four d f g h w (at_place 0 (Op.quotient d f g h w)))

-- ---- what a call hands back
-- with a refusal the zero model with n = 1
unfoldable pub returned_model : Result Model → Returned Model
returned_model = returned (zero_model 1)

-- with a refusal both ends 0
unfoldable pub returned_ends : Result Ends → Returned Ends
returned_ends = returned zero_ends

-- with a refusal both ends, q and r 0
unfoldable pub returned_integral : Result Integral → Returned Integral
returned_integral = returned zero_integral
