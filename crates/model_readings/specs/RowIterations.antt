-- The iterations of the one loop over a row: four for each reading.
use Rattle.std.specs.Prelude.{Bool, true, false, ◌&&◌, List, [], ◌∷◌, ℕ, zero, suc, ◌*◌, ◌/◌, ◌%◌, min, max, leb, pos, length, take, drop, get_or, Option, None, Some, Ok, Err}
use Rattle.std.proofs.Math.Option.{none}
use Rattle.calculus.specs.Model as C
use Rattle.calculus.specs.Model.{most_degree, sound}
use Rattle.calculus.specs.Refusal.{bad_model, bad_step, leaves_box, bad_reading, Result, done, stopped, require_at}
use Rattle.calculus.specs.Refusal.{◌followed_by◌}
use Rattle.calculus.specs.Operations.{Ends}
use Rattle.calculus.specs.Tests.{all_zero, all_in_unit}
use Rattle.calculus.specs.Calls.{call_evaluate}
use Rattle.readings.specs.Readings as R
use Rattle.readings.specs.Readings.{Found, in_order, with_place, held}
use Rattle.model_types.specs.declared.Model.{Model}
use Rattle.model_types.specs.declared.Reading.{Reading}
use Rattle.model_types.specs.declared.Finding.{Finding}
use Rattle.model_readings.specs.declared.Phase.{Phase}
use Rattle.model_readings.specs.declared.Phase.TheVariants.{Order, Unused, Within, Evaluation}
use Rattle.model_types.specs.ModelStruct.{view, Verdict}
use Rattle.model_readings.specs.ReadingStruct.{view_reading, finding}

-- what stands for a reading past the end of a row
abbrev pub no_reading : Reading
no_reading = record {
  x = pos 0 ∷ pos 0 ∷ pos 0 ∷ pos 0 ∷ pos 0 ∷ pos 0 ∷ pos 0 ∷ pos 0 ∷ [];
  low = pos 0;
  high = pos 0;
}

-- ---- what an iteration finds of reading i
-- 15
unfoldable pub check_order : ℕ → R.Reading → Found
check_order i r = require_at i (in_order r) bad_reading (done none)

-- 6
unfoldable pub check_unused : (n i : ℕ) → R.Reading → Found
check_unused n i r = require_at i (all_zero (drop n r.point)) bad_step (done none)

-- 9
unfoldable pub check_within : (n i : ℕ) → R.Reading → Found
check_within n i r = require_at i (all_in_unit (take n r.point)) leaves_box (done none)

-- what its evaluation says
unfoldable pub judged : ℕ → R.Reading → Result Ends → Found
judged i r e = with_place i e followed_by held i r (done none)

-- in phase p
unfoldable pub check : (p i : ℕ) → C.Model → R.Reading → Found
check zero i f r = check_order i r
check (suc zero) i f r = check_unused f.vars i r
check (suc (suc zero)) i f r = check_within f.vars i r
check (suc (suc (suc p))) i f r = judged i r (call_evaluate r.point f)

-- the same by the case of the phase
unfoldable pub found_in : Phase → (i : ℕ) → C.Model → R.Reading → Found
found_in Order i f r = check_order i r
found_in Unused i f r = check_unused f.vars i r
found_in Within i f r = check_within f.vars i r
found_in Evaluation i f r = judged i r (call_evaluate r.point f)

-- and the case of phase p
unfoldable pub phase_of : (p : ℕ) → Phase
phase_of zero = Order
phase_of (suc zero) = Unused
phase_of (suc (suc zero)) = Within
phase_of (suc (suc (suc p))) = Evaluation

-- ---- the iterations
-- no reading contradicts so far
unfoldable pub no_contradiction : Option ℕ → Bool
no_contradiction None = true
no_contradiction (Some i) = false

-- nothing is refused so far
unfoldable pub no_refusal : Verdict → Bool
no_refusal (Ok u) = true
no_refusal (Err r) = false

-- neither a contradiction nor a refusal is found yet
unfoldable pub undecided : Finding → Bool
undecided s = no_contradiction s.contradiction && no_refusal s.verdict

-- what was found stays; otherwise what is found next
unfoldable pub after : Finding → Finding → Finding
after s t = elim (undecided s) [ true ↦ t | false ↦ s ]

-- iteration k of a row of n readings, n from 1: phase k / n, reading k % n
unfoldable pub iteration_of : Model → Finding → (k n : ℕ) → Reading → Finding
iteration_of m s k n r = after s (finding (check (k / max n 1) (k % max n 1) (view m) (view_reading r)))

-- the iteration after it, and none once something is found
unfoldable pub next_iteration : Finding → (k end : ℕ) → ℕ
next_iteration s k end = elim (undecided s) [ true ↦ min (suc k) end | false ↦ end ]

-- before the first iteration: 15 for a long row, 5
unfoldable pub begun_of : Model → ℕ → Finding
begun_of m n = finding
    (require_at 0 (leb n 256) bad_reading
    (require_at 0 (sound most_degree (view m)) bad_model
    (done none)))

-- how many iterations there are: four for each reading; where the row is too long it is refused before, and any number
-- does
unfoldable pub iteration_count : ℕ → ℕ
iteration_count n = n % 257 * 4

-- j iterations from iteration k on
unfoldable pub pass : Model → List Reading → (j k : ℕ) → Finding → Finding
pass m ys zero k s = s
pass m ys (suc j) k s = pass m ys j (suc k) (iteration_of m s k (length ys) (get_or ys (k % length ys) no_reading))
