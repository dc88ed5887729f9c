-- `threshold_within_limits` is the test that t is from 0 to the span limit.
use borrow.Author.Rules.{rules}
use mir.Facts.{to_z-of_z}
use Rattle.fixed.specs.MachineLaws.{from_zero}
use Rattle.fixed.proofs.threshold_within_limits.Goals as goal

pub returns-then-t-ge0 : goal.returns-then-t-ge0
returns-then-t-ge0 c =
    let f = c.before.before.before.ranges.t in
    rw (c.within_span.ensures, c.before.magnitude.ensures, to_z-of_z f, from_zero f c.before.before.if-t-ge0.true)

pub returns-else-t-ge0 : goal.returns-else-t-ge0
returns-else-t-ge0 c = rw (c.if-t-ge0.false, from_zero c.before.ranges.t c.if-t-ge0.false)
