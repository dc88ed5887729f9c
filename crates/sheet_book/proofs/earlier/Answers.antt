-- `earlier` is the test that a value is from 0 to i - 1.
use mir.Facts.{to_z-of_z}
use Rattle.fixed.specs.MachineLaws.{from_zero}
use Rattle.format.specs.Fields.{earlier}
use Rattle.sheet_book.proofs.earlier.Goals as goal

pub returns-then-value-ge0 : goal.returns-then-value-ge0
unfolding earlier
returns-then-value-ge0 c =
    let f = c.ranges.value in
    rw (c.magnitude.ensures, to_z-of_z f, from_zero f c.if-value-ge0.true)

pub returns-else-value-ge0 : goal.returns-else-value-ge0
unfolding earlier
returns-else-value-ge0 c = rw (c.if-value-ge0.false, from_zero c.ranges.value c.if-value-ge0.false)
