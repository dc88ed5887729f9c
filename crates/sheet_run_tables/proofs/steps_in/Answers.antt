-- `steps_in` has its table as scratch.
use Rattle.std.proofs.Common.{arith}
use Rattle.sheet_run_tables.proofs.steps_in.Goals as goal

pub whole_as_slice-steps : goal.whole_as_slice-steps
whole_as_slice-steps g c = omega (arith, c.requires.small.0)

pub whole_as_slice-steps-2 : goal.whole_as_slice-steps-2
whole_as_slice-steps-2 g c = omega (arith, c.requires.small.1)

pub whole_as_slice-steps-3 : goal.whole_as_slice-steps-3
whole_as_slice-steps-3 g c = omega (arith, c.requires.small.2)

pub steps-requires : goal.steps-requires
steps-requires g c = record { part = c.requires.part; scratch_room = c.requires.sizes }
