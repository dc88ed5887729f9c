-- `write_book` tests what it is handed, builds the book, writes it and stores the numbers.
use mathlib.Core.Path.{sym, ◌∙◌, ap}
use borrow.Author.Rules.{rules}
use borrow.Author.Tests.{not-true, not-false}
use Rattle.c_writes.specs.WriteCalls.{WrittenNumbers, written_state, answered_write, write_book}
use Rattle.c_writes.specs.WriteCalls.{called_write}
use Rattle.c_writes.specs.WriteCallsLaws.{fits_numbers}
use Rattle.c_writes.proofs.write_book.Goals as goal

pub returns-then-not-book_fits : goal.returns-then-not-book_fits
unfolding called_write
returns-then-not-book_fits c =
    rw (
      sym c.model_places-models.ensures,
      sym c.step_places-steps.ensures,
      sym c.book_fits.ensures ∙ c.if-not-book_fits.true,
    )

pub store_written-requires : goal.store_written-requires
store_written-requires c =
    fits_numbers _ _ _ _ _ (sym c.book_fits.ensures ∙ c.if-not-book_fits.false)

pub returns : goal.returns
unfolding written_state answered_write write_book called_write
returns c =
    ap (λ (z : WrittenNumbers). answered_write z c.write-w.new.buffer) c.store_written.ensures
    ∙ rw (
      c.write-w.ensures.answers,
      c.write-w.ensures.leaves,
      c.handed_book-b.ensures,
      sym c.model_places-models.ensures,
      sym c.step_places-steps.ensures,
      sym c.book_fits.ensures ∙ c.if-not-book_fits.false,
    )
