-- `curve_room` tests the length of the coefficients, then that of the numbers.
use borrow.Author.Tests.{le-leb, lt-leb}
use Rattle.chebyshev.specs.PowerRows.{places}
use Rattle.c_curves.specs.HandedCurves.{curve_room}
use Rattle.c_curves.proofs.curve_room.Goals as goal

pub returns-then-coefficients-ge-CURVE_PLACES : goal.returns-then-coefficients-ge-CURVE_PLACES
unfolding curve_room places
returns-then-coefficients-ge-CURVE_PLACES c = rw (le-leb 16 _ c.if-coefficients-ge-CURVE_PLACES.true)

pub returns-else-coefficients-ge-CURVE_PLACES : goal.returns-else-coefficients-ge-CURVE_PLACES
unfolding curve_room places
returns-else-coefficients-ge-CURVE_PLACES c = rw (lt-leb 16 _ c.if-coefficients-ge-CURVE_PLACES.false)
