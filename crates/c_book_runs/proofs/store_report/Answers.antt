-- `store_report` stores the rows and the summary.
use borrow.Author.Rules.{rules}
use Rattle.c_book_runs.specs.ShareCalls.{stored_report}
use Rattle.c_book_runs.proofs.store_report.Goals as goal

pub returns : goal.returns
unfolding stored_report
returns c =
    rw (c.store_summary.ensures, c.store_rows.ensures)
