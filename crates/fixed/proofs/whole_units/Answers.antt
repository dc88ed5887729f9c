-- `whole_units` is the floor of z / U: a shift that copies the sign rounds down.
use borrow.Author.Rules.{rules}
use lib.Signed.{mag_shr}
use mir.Facts.{to_z-of_z}
use mir.ValLaws.{sfits_le}
use Rattle.numbers.specs.Division.{floor}
use Rattle.numbers.specs.Fixed.{U}
use Rattle.fixed.proofs.whole_units.Goals as goal

pub returns : goal.returns
unfolding U floor
returns c = rw (to_z-of_z c.ranges.z) (to_z-of_z (sfits_le (mag_shr c.args.z U) c.ranges.z))
