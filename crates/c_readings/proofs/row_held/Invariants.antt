-- `row_held` makes the iterations of a row of structs: those that are left give what all give.
use mathlib.Core.Path.{◌≡◌}
use Prim.Native.Nat.{◌-◌, ◌*◌, ◌%◌}
use lib.ListN.{length}
use Rattle.model_readings.specs.RowIterations.{begun_of, pass}
use Rattle.c_readings.specs.HandedReadings.{row_of}
use Rattle.c_readings.proofs.row_held.Given as goal

abbrev pub invariant-loop-k : goal.invariant-loop-k
invariant-loop-k l =
    pass l.m (row_of l.points l.lows l.highs) (length l.lows % 257 * 4 - l.k) l.k l.s
    ≡ pass l.m (row_of l.points l.lows l.highs) (length l.lows % 257 * 4) 0 (begun_of l.m (length l.lows))

abbrev pub decreases-loop-k : goal.decreases-loop-k
decreases-loop-k l = length l.lows % 257 * 4 - l.k
