-- `handed_models` stores the models one after the other.
use mathlib.Core.Path.{◌≡◌}
use lib.ListN.{length}
use Rattle.calculus.specs.Book.{most_models}
use Rattle.model_types.specs.Arrays.{padded}
use Rattle.sheet_book.specs.BookStruct.{no_model}
use Rattle.c_books.specs.HandedBooks.{table, model_at}
use Rattle.c_books.specs.HandedBooksLaws.{ModelsBorrowed}
use Rattle.c_books.proofs.handed_models.Given as goal

abbrev pub invariant-loop-k : goal.invariant-loop-k
invariant-loop-k l =
    (l.out ≡ padded no_model most_models
    (table (model_at l.ns l.counts l.radii l.keys l.coefficients) l.k))
    × ModelsBorrowed l.places (length l.ns) (length l.counts) (length l.radii) (length l.keys) (length l.coefficients)
