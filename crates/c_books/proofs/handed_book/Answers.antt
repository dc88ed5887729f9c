-- `handed_book` puts the models and the steps together.
use Rattle.c_books.specs.HandedBooks.{handed_book}
use Rattle.c_books.proofs.handed_book.Goals as goal

pub returns : goal.returns
unfolding handed_book
returns c = rw (c.handed_steps.ensures, c.handed_models.ensures)
