-- `point_fits` tests the length for evaluate alone.
use Rattle.std.proofs.Common.{arith}
use Rattle.std.proofs.lemmas.Bool.Decides.{nat_tests}
use Rattle.calculus.specs.Model.{most_vars}
use Rattle.c_calls.specs.CallCodes.{point_fits}
use Rattle.c_calls.proofs.point_fits.Goals as goal

pub returns-then-code-ne-EVALUATE : goal.returns-then-code-ne-EVALUATE
unfolding point_fits most_vars
returns-then-code-ne-EVALUATE c = grind (arith, nat_tests)

pub returns-else-code-ne-EVALUATE : goal.returns-else-code-ne-EVALUATE
unfolding point_fits most_vars
returns-else-code-ne-EVALUATE c = grind (arith, nat_tests)
