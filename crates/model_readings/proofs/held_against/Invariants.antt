-- `held_against` goes through the iterations of the row: those that are left give what all give, and none is left out
-- but
-- where something is found.
use mathlib.Core.Path.{◌≡◌}
use Prim.Native.Nat.{◌-◌, ◌*◌, ◌%◌, ◌≤◌}
use lib.ListN.{length}
use Rattle.model_readings.specs.RowIterations.{begun_of, pass}
use Rattle.model_readings.proofs.held_against.Given as goal

abbrev pub invariant-loop-k : goal.invariant-loop-k
invariant-loop-k l =
    (l.k ≤ length l.rows % 257 * 4)
    × (pass l.m l.rows (length l.rows % 257 * 4 - l.k) l.k l.s
    ≡ pass l.m l.rows (length l.rows % 257 * 4) 0 (begun_of l.m (length l.rows)))

abbrev pub decreases-loop-k : goal.decreases-loop-k
decreases-loop-k l = length l.rows % 257 * 4 - l.k
