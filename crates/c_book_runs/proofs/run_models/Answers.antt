-- `run_models` tests its slices, builds the book, runs it and stores the answer.
use mathlib.Core.Path.{sym, ◌∙◌}
use borrow.Author.Rules.{rules}
use borrow.Author.Tests.{le-leb, lt-leb}
use Rattle.model_slices.specs.HandedModelsLaws.{room}
use Rattle.c_runs.specs.SheetCalls.{called_run}
use Rattle.c_runs.specs.RemainderLaws.{held_small}
use Rattle.c_book_runs.proofs.run_models.Goals as goal

pub returns-then-not-book_fits : goal.returns-then-not-book_fits
unfolding called_run
returns-then-not-book_fits c =
    rw (
      sym c.model_places-models.ensures,
      sym c.step_places-steps.ensures,
      sym c.book_fits.ensures ∙ c.if-not-book_fits.true,
    )

pub returns-then-not-model_room : goal.returns-then-not-model_room
unfolding called_run
returns-then-not-model_room c =
    rw (
      sym c.model_places-models.ensures,
      sym c.step_places-steps.ensures,
      sym c.book_fits.ensures ∙ c.if-not-book_fits.false,
      sym c.model_room.ensures ∙ c.if-not-model_room.true,
    )

pub returns-then-ends-lt-ENDS : goal.returns-then-ends-lt-ENDS
unfolding called_run
returns-then-ends-lt-ENDS c =
    rw (
      sym c.model_places-models.ensures,
      sym c.step_places-steps.ensures,
      sym c.book_fits.ensures ∙ c.if-not-book_fits.false,
      sym c.model_room.ensures ∙ c.if-not-model_room.false,
      lt-leb 6 _ c.if-ends-lt-ENDS.true,
    )

pub store_summary-requires : goal.store_summary-requires
store_summary-requires c =
    let r = room _ _ _ (sym c.model_room.ensures ∙ c.if-not-model_room.false) in
    (r.0, r.1, r.2, c.if-ends-lt-ENDS.false, rw c.run_book-s.ensures.exact (held_small _))

pub returns : goal.returns
unfolding called_run
returns c =
    rw (
      c.store_summary.ensures,
      c.run_book-s.ensures.exact,
      c.handed_book-b.ensures,
      sym c.model_places-models.ensures,
      sym c.step_places-steps.ensures,
      sym c.book_fits.ensures ∙ c.if-not-book_fits.false,
      sym c.model_room.ensures ∙ c.if-not-model_room.false,
      le-leb 6 _ c.if-ends-lt-ENDS.false,
    )
