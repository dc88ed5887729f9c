-- `within_unit` is the test of the size against the unit.
use borrow.Author.Rules.{rules}
use mir.Facts.{to_z-of_z}
use Rattle.numbers.specs.Fixed.{U}
use Rattle.fixed.proofs.within_unit.Goals as goal

pub returns : goal.returns
unfolding U
returns c = rw (c.magnitude.ensures, to_z-of_z c.before.ranges.x)
