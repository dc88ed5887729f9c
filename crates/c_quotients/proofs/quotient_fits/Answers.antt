-- `quotient_fits` tests the number of models, then the room.
use native.Mathlib.Omega.{arith}
use Rattle.std.proofs.lemmas.Grind.{common_steps}
use Rattle.std.proofs.lemmas.Bool.Decides.{nat_tests}
use Rattle.c_quotients.specs.HandedQuotients.{quotient_fits}
use Rattle.c_quotients.proofs.quotient_fits.Goals as goal

pub returns-then-models-ge-MODELS : goal.returns-then-models-ge-MODELS
unfolding quotient_fits
returns-then-models-ge-MODELS c = grind (arith, common_steps, nat_tests)

pub returns-else-models-ge-MODELS : goal.returns-else-models-ge-MODELS
unfolding quotient_fits
returns-else-models-ge-MODELS c = grind (arith, common_steps, nat_tests)
