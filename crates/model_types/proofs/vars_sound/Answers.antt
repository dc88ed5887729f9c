-- `vars_sound` is the test of a number of variables.
use borrow.Author.Rules.{rules}
use Rattle.calculus.specs.Model.{most_vars}
use Rattle.calculus.specs.Tests.{vars_sound}
use Rattle.model_types.proofs.vars_sound.Goals as goal

pub returns : goal.returns
unfolding vars_sound most_vars
returns c = c.from_one.ensures
