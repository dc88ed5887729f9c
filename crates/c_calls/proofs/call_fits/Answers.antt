-- `call_fits` makes the tests one after the other.
use Rattle.std.proofs.Common.{arith}
use Rattle.std.proofs.lemmas.Bool.Decides.{nat_tests}
use Rattle.c_calls.specs.CallCodes.{call_fits}
use Rattle.c_calls.proofs.call_fits.Goals as goal

pub returns-then-borrowed-2 : goal.returns-then-borrowed-2
unfolding call_fits
returns-then-borrowed-2 c = grind (arith, nat_tests)

pub returns-else-borrowed-2 : goal.returns-else-borrowed-2
unfolding call_fits
returns-else-borrowed-2 c = grind (arith, nat_tests)
