-- `order_sound` is the test of an order.
use borrow.Author.Rules.{rules}
use Rattle.calculus.specs.Model.{most_degree}
use Rattle.calculus.specs.Tests.{order_sound}
use Rattle.model_types.proofs.order_sound.Goals as goal

pub returns : goal.returns
unfolding order_sound most_degree
returns c = c.from_one.ensures
