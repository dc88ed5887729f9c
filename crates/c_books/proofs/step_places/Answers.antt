-- `step_places` takes the least.
use Rattle.calculus.specs.Book.{most_steps}
use Rattle.c_books.specs.HandedBooks.{step_places}
use Rattle.c_books.proofs.step_places.Goals as goal

pub returns : goal.returns
unfolding step_places most_steps
returns c = rw (c.least.ensures, c.least-both.ensures)
