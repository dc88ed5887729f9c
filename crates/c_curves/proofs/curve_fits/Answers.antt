-- `curve_fits` makes the tests one after the other.
use native.Mathlib.Omega.{arith}
use Rattle.std.proofs.lemmas.Grind.{common_steps}
use Rattle.std.proofs.lemmas.Bool.Decides.{nat_tests}
use Rattle.chebyshev.specs.PowerRows.{places}
use Rattle.c_curves.specs.HandedCurves.{curve_fits}
use Rattle.c_curves.proofs.curve_fits.Goals as goal

pub returns-then-coefficients2-ge-CURVE_PLACES : goal.returns-then-coefficients2-ge-CURVE_PLACES
unfolding curve_fits places
returns-then-coefficients2-ge-CURVE_PLACES c = grind (arith, common_steps, nat_tests)

pub returns-else-coefficients2-ge-CURVE_PLACES : goal.returns-else-coefficients2-ge-CURVE_PLACES
unfolding curve_fits places
returns-else-coefficients2-ge-CURVE_PLACES c = grind (arith, common_steps, nat_tests)
