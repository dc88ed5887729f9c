-- The tests of the single calls alone, in document 01's order: what each call is refused for before it begins.
use Rattle.std.specs.Prelude.{List, ℕ, ℤ, take, drop}
use Rattle.calculus.specs.Model.{Model, most_degree, sound}
use Rattle.calculus.specs.Refusal.{bad_limits, bad_model, bad_step, leaves_box, Result, done, require_at}
use Rattle.calculus.specs.Tests.{order_sound, variable_sound, threshold_sound, all_zero, all_in_unit}
use Rattle.calculus.specs.Calls.{require_two, require_four}

-- tests that have nothing to hand on: done, or the first refusal with its place
abbrev pub Tests : Type 0
Tests = Result (Unit {0})

-- ---- calls of one model: 5
unfoldable pub single_model : Model → Tests
single_model f = require_at 0 (sound most_degree f) bad_model (done tt)

-- a sweep: 5, 6
unfoldable pub sweeping : (t : ℤ) → Model → Tests
sweeping t f = require_at 0 (sound most_degree f) bad_model (require_at 0 (threshold_sound t) bad_step (done tt))

-- an evaluation: 5, 6, 9
unfoldable pub at_point : List ℤ → Model → Tests
at_point Xs f =
    require_at 0 (sound most_degree f) bad_model
    (require_at 0 (all_zero (drop f.vars Xs)) bad_step
    (require_at 0 (all_in_unit (take f.vars Xs)) leaves_box (done tt)))

-- an antiderivative: 3, 5, 6
unfoldable pub integrating : (d i : ℕ) → Model → Tests
integrating d i f =
    require_at 0 (order_sound d) bad_limits
    (require_at 0 (sound d f) bad_model
    (require_at 0 (variable_sound f.vars i) bad_step (done tt)))

-- ---- calls of two models: 5, 5, 10
unfoldable pub two_models : (d : ℕ) (f g : Model) → Tests
two_models d f g = require_two d f g (done tt)

-- a product: 3, 5, 5, 10
unfoldable pub ordered : (d : ℕ) (f g : Model) → Tests
ordered d f g = require_at 0 (order_sound d) bad_limits (require_two d f g (done tt))

-- a substitution: 3, 5, 5, 10, 6
unfoldable pub substituting : (d i : ℕ) (f g : Model) → Tests
substituting d i f g =
    require_at 0 (order_sound d) bad_limits
    (require_two d f g (require_at 0 (variable_sound f.vars i) bad_step (done tt)))

-- ---- the call of four models: 5 four times, 10
unfoldable pub four_models : (d : ℕ) (f g h w : Model) → Tests
four_models d f g h w = require_four d f g h w (done tt)

-- a quotient: 3, 5 four times, 10
unfoldable pub dividing : (d : ℕ) (f g h w : Model) → Tests
dividing d f g h w = require_at 0 (order_sound d) bad_limits (require_four d f g h w (done tt))
