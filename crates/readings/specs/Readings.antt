-- Readings held against a model (request 12): which reading contradicts it first, and the refusals in order.
use Rattle.std.specs.Prelude.{Bool, true, false, ◌||◌, List, [], ◌∷◌, ℕ, suc, leb, ℤ, length, take, drop}
use Rattle.std.proofs.Math.Option.{Option, none, some}
use Rattle.std.specs.Int.Signed.{le_z, lt_z}
use Rattle.calculus.specs.Model.{Model, most_degree, sound}
use Rattle.calculus.specs.Refusal.{bad_model, bad_step, leaves_box, bad_reading, Result, done, stopped}
use Rattle.calculus.specs.Refusal.{require_at, require_each, ◌followed_by◌}
use Rattle.calculus.specs.Operations.{Ends}
use Rattle.calculus.specs.Tests.{all_zero, all_in_unit}
use Rattle.calculus.specs.Calls.{call_evaluate}

-- a point, and a low and a high value in units: its band runs from the one to the other
pub record Reading : Type 0 where
  pub point : List ℤ
  pub low : ℤ
  pub high : ℤ

-- up to 256 readings
unfoldable pub most_readings : ℕ
most_readings = 256

-- ---- one reading
-- its low value does not exceed its high one
unfoldable pub in_order : Reading → Bool
in_order r = le_z r.low r.high

-- its band and the evaluation at its point have no number in common: the one ends below where the other begins
unfoldable pub contradicts : Reading → Ends → Bool
contradicts r e = lt_z r.high e.low || lt_z e.high r.low

-- what a single call gives, with reading i as the place of its refusal
unfoldable pub with_place : {A : Type 0} → ℕ → Result A → Result A
with_place i (done a) = done a
with_place i (stopped r j) = stopped r i

-- ---- the row
-- the number of the first contradicting reading, or that there is none
abbrev pub Found : Type 0
Found = Result (Option ℕ)

-- reading i, once it is evaluated: it contradicts, or the rest of the row decides
unfoldable pub held : ℕ → Reading → Found → Ends → Found
held i r rest e = elim (contradicts r e) [ true ↦ done (some i) | false ↦ rest ]

-- the readings from number i on, evaluated in order up to the first that contradicts or is refused
unfoldable pub first_contradicting : ℕ → Model → List Reading → Found
first_contradicting i f [] = done none
first_contradicting i f (r ∷ rows) =
    with_place i (call_evaluate r.point f) followed_by held i r (first_contradicting (suc i) f rows)

-- ---- the call
-- 15 for a longer row, at place 0; 5; all readings for 15, then all for 6, then all for 9; then they are evaluated
unfoldable pub call_readings : Model → List Reading → Found
call_readings f rows =
    require_at 0 (leb (length rows) most_readings) bad_reading
    (require_at 0 (sound most_degree f) bad_model
    (require_each 0 (λ i r. in_order r) rows bad_reading
    (require_each 0 (λ i r. all_zero (drop f.vars r.point)) rows bad_step
    (require_each 0 (λ i r. all_in_unit (take f.vars r.point)) rows leaves_box
    (first_contradicting 0 f rows)))))
