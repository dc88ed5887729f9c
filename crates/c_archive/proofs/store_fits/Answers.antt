-- `store_fits` makes the tests one after the other.
use native.Mathlib.Omega.{arith}
use Rattle.std.proofs.lemmas.Grind.{common_steps}
use Rattle.std.proofs.lemmas.Bool.Decides.{nat_tests}
use Rattle.c_archive.specs.ArchiveCalls.{store_fits}
use Rattle.c_archive.proofs.store_fits.Goals as goal

pub returns-then-borrowed : goal.returns-then-borrowed
unfolding store_fits
returns-then-borrowed c = grind (arith, common_steps, nat_tests)

pub returns-else-borrowed : goal.returns-else-borrowed
unfolding store_fits
returns-else-borrowed c = grind (arith, common_steps, nat_tests)
