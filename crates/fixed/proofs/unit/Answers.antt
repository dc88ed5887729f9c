-- `unit` is U.
use mathlib.Core.Path.{refl}
use borrow.Author.Rules.{rules}
use Rattle.numbers.specs.Fixed.{U}
use Rattle.fixed.proofs.unit.Goals as goal

pub returns : goal.returns
unfolding U
returns c = refl
