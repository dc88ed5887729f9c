-- `to_powers_fits` tests the length of the coefficients, then the room.
use borrow.Author.Tests.{le-leb, lt-leb}
use Rattle.chebyshev.specs.PowerRows.{places}
use Rattle.c_curves.specs.HandedCurves.{to_powers_fits}
use Rattle.c_curves.proofs.to_powers_fits.Goals as goal

pub returns-then-coefficients-ge-CURVE_PLACES : goal.returns-then-coefficients-ge-CURVE_PLACES
unfolding to_powers_fits places
returns-then-coefficients-ge-CURVE_PLACES c = rw (le-leb 16 _ c.if-coefficients-ge-CURVE_PLACES.true)

pub returns-else-coefficients-ge-CURVE_PLACES : goal.returns-else-coefficients-ge-CURVE_PLACES
unfolding to_powers_fits places
returns-else-coefficients-ge-CURVE_PLACES c = rw (lt-leb 16 _ c.if-coefficients-ge-CURVE_PLACES.false)
