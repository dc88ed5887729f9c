-- `from_one` is the test from 1 on.
use borrow.Author.Tests.{le-leb, lt-leb}
use Rattle.calculus.specs.Model.{between}
use Rattle.model_types.proofs.from_one.Goals as goal

pub returns-then-i-lt1 : goal.returns-then-i-lt1
unfolding between
returns-then-i-lt1 c = rw (lt-leb 1 _ c.if-i-lt1.true)

pub returns : goal.returns
unfolding between
returns c = rw (le-leb 1 _ c.if-i-lt1.false)
