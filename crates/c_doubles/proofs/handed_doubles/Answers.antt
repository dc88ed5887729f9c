-- `handed_doubles` puts the struct together.
use Rattle.c_doubles.specs.HandedDoubles.{handed_doubles}
use Rattle.c_doubles.proofs.handed_doubles.Goals as goal

pub returns : goal.returns
unfolding handed_doubles
returns c = c.from_doubles.ensures
