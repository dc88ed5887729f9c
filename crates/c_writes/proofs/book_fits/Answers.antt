-- `book_fits` makes the tests one after the other.
use Rattle.std.proofs.Common.{arith}
use Rattle.std.proofs.lemmas.Bool.Decides.{nat_tests}
use Rattle.calculus.specs.Book.{most_models, most_steps}
use Rattle.c_writes.specs.WriteCalls.{book_fits}
use Rattle.c_writes.proofs.book_fits.Goals as goal

pub returns-then-least-steps : goal.returns-then-least-steps
unfolding book_fits most_models most_steps
returns-then-least-steps c = grind (arith, nat_tests, c.least.ensures)

pub returns-else-least-steps : goal.returns-else-least-steps
unfolding book_fits most_models most_steps
returns-else-least-steps c = grind (arith, nat_tests, c.least.ensures)
