-- `cut_fits` makes the tests one after the other.
use native.Mathlib.Omega.{arith}
use Rattle.std.proofs.lemmas.Grind.{common_steps}
use Rattle.std.proofs.lemmas.Bool.Decides.{nat_tests}
use Rattle.c_cuts.specs.CutCalls.{cut_fits}
use Rattle.c_cuts.proofs.cut_fits.Goals as goal

pub returns-then-ends-ge-ENDS : goal.returns-then-ends-ge-ENDS
unfolding cut_fits
returns-then-ends-ge-ENDS c = grind (arith, common_steps, nat_tests)

pub returns-else-ends-ge-ENDS : goal.returns-else-ends-ge-ENDS
unfolding cut_fits
returns-else-ends-ge-ENDS c = grind (arith, common_steps, nat_tests)
