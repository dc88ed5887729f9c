-- `ends_call_fits` makes the tests one after the other.
use Rattle.std.proofs.Common.{arith}
use Rattle.std.proofs.lemmas.Bool.Decides.{nat_tests}
use Rattle.c_calls.specs.CallCodes.{ends_call_fits}
use Rattle.c_calls.proofs.ends_call_fits.Goals as goal

pub returns-then-point_fits : goal.returns-then-point_fits
unfolding ends_call_fits
returns-then-point_fits c = grind (arith, nat_tests)

pub returns-else-point_fits : goal.returns-else-point_fits
unfolding ends_call_fits
returns-else-point_fits c = grind (arith, nat_tests)
