-- `shares_sheet` tests its slices, runs the sheet and stores the answer with its rows.
use mathlib.Core.Path.{sym, ◌∙◌}
use borrow.Author.Rules.{rules}
use Rattle.sheet_book.specs.ReportStruct.{report}
use Rattle.c_shares.specs.HandedSharesLaws.{report_fits}
use Rattle.c_runs.specs.RemainderLaws.{sheet_small}
use Rattle.c_book_runs.specs.ShareCalls.{called_report}
use Rattle.c_book_runs.proofs.shares_sheet.Goals as goal

pub returns-then-not-report_room : goal.returns-then-not-report_room
unfolding called_report
returns-then-not-report_room c = rw (sym c.report_room.ensures ∙ c.if-not-report_room.true)

pub store_report-requires : goal.store_report-requires
unfolding report
store_report-requires c =
    let f = report_fits _ _ _ _ _ (sym c.report_room.ensures ∙ c.if-not-report_room.false) in
    (f.0, f.1, f.2, f.3, f.4, rw c.run_reported-r.ensures.exact (sheet_small _))

pub returns : goal.returns
unfolding called_report
returns c =
    rw (
      c.store_report.ensures,
      c.run_reported-r.ensures.exact,
      sym c.report_room.ensures ∙ c.if-not-report_room.false,
    )
