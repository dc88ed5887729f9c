-- `report_room` compares each length.
use Rattle.std.proofs.Common.{arith}
use Rattle.std.proofs.lemmas.Bool.Decides.{nat_tests}
use Rattle.c_shares.specs.HandedShares.{report_room}
use Rattle.c_shares.proofs.report_room.Goals as goal

pub returns-then-ends-ge-ENDS : goal.returns-then-ends-ge-ENDS
unfolding report_room
returns-then-ends-ge-ENDS c = grind (arith, nat_tests)

pub returns-else-ends-ge-ENDS : goal.returns-else-ends-ge-ENDS
unfolding report_room
returns-else-ends-ge-ENDS c = grind (arith, nat_tests)
