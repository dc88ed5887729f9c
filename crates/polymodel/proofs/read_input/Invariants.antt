-- The count stays within the buffer, and each iteration adds to it.
use Rattle.std.proofs.Common.{length, ◌-◌, ◌≤◌}
use Rattle.polymodel.proofs.read_input.Given as goal

abbrev pub invariant-loop-count : goal.invariant-loop-count
invariant-loop-count l = l.count ≤ length l.buffer

abbrev pub decreases-loop-count : goal.decreases-loop-count
decreases-loop-count l = length l.initial.buffer - l.count
