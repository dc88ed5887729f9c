-- `handed_steps` stores the steps one after the other.
use mathlib.Core.Path.{◌≡◌}
use lib.ListN.{length}
use Rattle.calculus.specs.Book.{most_steps}
use Rattle.model_types.specs.Arrays.{padded}
use Rattle.sheet_book.specs.BookStruct.{no_step}
use Rattle.c_books.specs.HandedBooks.{table, step_at}
use Rattle.c_books.specs.HandedBooksLaws.{StepsBorrowed}
use Rattle.c_books.proofs.handed_steps.Given as goal

abbrev pub invariant-loop-i : goal.invariant-loop-i
invariant-loop-i l =
    (l.out ≡ padded no_step most_steps (table (step_at l.fields l.values) l.i))
    × StepsBorrowed l.places (length l.fields) (length l.values)
