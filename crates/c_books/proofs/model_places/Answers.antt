-- `model_places` takes the least.
use Rattle.calculus.specs.Model.{most_terms}
use Rattle.calculus.specs.Book.{most_models}
use Rattle.c_books.specs.HandedBooks.{model_places}
use Rattle.c_books.proofs.model_places.Goals as goal

pub returns : goal.returns
unfolding model_places most_terms most_models
returns c =
    rw (c.least-3.ensures, c.least-2.ensures, c.least-heads.ensures, c.least.ensures, c.least-terms.ensures)
