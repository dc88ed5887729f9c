-- `constant_within_limits` is the test of the size against the span limit.
use borrow.Author.Rules.{rules}
use mir.Facts.{to_z-of_z}
use Rattle.fixed.proofs.constant_within_limits.Goals as goal

pub returns : goal.returns
returns c = rw (c.within_span.ensures, c.before.magnitude.ensures, to_z-of_z c.before.before.ranges.v)
