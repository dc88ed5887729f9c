-- The report of a run by what was read of a sheet: a book, or the refusal of a test.
use Rattle.std.specs.Prelude.{◌≡◌}
use Rattle.calculus.specs.Refusal.{Result, done, ◌followed_by◌}
use Rattle.calculus.specs.Book as B
use Rattle.calculus.specs.Book.{run_sound}
use Rattle.calculus.specs.Shares.{rows_sound, reported}
use Rattle.format.specs.HeldBook.{HeldBook, view_book, HeldPasses}
use Rattle.sheet_book.specs.declared.Report.{Report}
use Rattle.sheet_book.specs.SummaryStruct.{run_answer}
use Rattle.sheet_book.specs.ReportStruct.{report}
use Rattle.sheet_run_bytes.specs.sheet_running.declared.Ran.{Ran}
use Rattle.sheet_run_bytes.specs.RunBytes.{ran_read}

-- the run of what was read
unfoldable pub run_read : Result HeldBook → Result B.Summary
run_read o = o followed_by (λ h. run_sound (view_book h))

-- its answer with its rows, all zeros where a test refuses
unfoldable pub report_read : Result HeldBook → Report
report_read o =
    report (run_answer (run_read o)) (reported (o followed_by (λ h. done (rows_sound (view_book h)))))

-- r is what the steps lead to of a book that was read and passes the tests, or the refusal
pub record RunOf (r : Ran) : Type 0 where
  pub read : Result HeldBook
  pub is : r ≡ ran_read read
  pub passes : (h : HeldBook) → read ≡ done h → HeldPasses h
