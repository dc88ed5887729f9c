-- `shares_models` tests its slices, builds the book, runs it and stores the answer with its rows.
use mathlib.Core.Path.{sym, ◌∙◌}
use borrow.Author.Rules.{rules}
use Rattle.sheet_book.specs.ReportStruct.{report}
use Rattle.c_shares.specs.HandedSharesLaws.{report_fits}
use Rattle.c_runs.specs.RemainderLaws.{held_small}
use Rattle.c_book_runs.specs.ShareCalls.{called_report}
use Rattle.c_book_runs.proofs.shares_models.Goals as goal

pub returns-then-not-book_fits : goal.returns-then-not-book_fits
unfolding called_report
returns-then-not-book_fits c =
    rw (
      sym c.model_places-models.ensures,
      sym c.step_places-steps.ensures,
      sym c.book_fits.ensures ∙ c.if-not-book_fits.true,
    )

pub returns-then-not-report_room : goal.returns-then-not-report_room
unfolding called_report
returns-then-not-report_room c =
    rw (
      sym c.model_places-models.ensures,
      sym c.step_places-steps.ensures,
      sym c.book_fits.ensures ∙ c.if-not-book_fits.false,
      sym c.report_room.ensures ∙ c.if-not-report_room.true,
    )

pub store_report-requires : goal.store_report-requires
unfolding report
store_report-requires c =
    let f = report_fits _ _ _ _ _ (sym c.report_room.ensures ∙ c.if-not-report_room.false) in
    (f.0, f.1, f.2, f.3, f.4, rw c.run_book_reported-r.ensures.exact (held_small _))

pub returns : goal.returns
unfolding called_report
returns c =
    rw (
      c.store_report.ensures,
      c.run_book_reported-r.ensures.exact,
      c.handed_book-b.ensures,
      sym c.model_places-models.ensures,
      sym c.step_places-steps.ensures,
      sym c.book_fits.ensures ∙ c.if-not-book_fits.false,
      sym c.report_room.ensures ∙ c.if-not-report_room.false,
    )
