-- The run of a book in memory, and what is promised of the answer of a run.
use Rattle.std.specs.Prelude.{◌≡◌, List, ℕ}
use Rattle.calculus.specs.Refusal.{Result, done}
use Rattle.calculus.specs.Book as B
use Rattle.calculus.specs.Book.{run_sound}
use Rattle.calculus.specs.Shares.{Shares, rows_sound, reported}
use Rattle.claim.specs.Claim.{Claim}
use Rattle.format.specs.HeldBook.{HeldBook, view_book, held_tested}
use Rattle.format.specs.Format.{run_sheet, sheet_rows}
use Rattle.format.specs.SheetClaim.{SheetClaim}
use Rattle.sheet_book.specs.declared.Summary.{Summary}
use Rattle.sheet_book.specs.declared.Report.{Report}
use Rattle.sheet_book.specs.SummaryStruct.{run_answer, summary_of}
use Rattle.sheet_book.specs.ReportStruct.{report}

-- ---- the run
-- the run of a book in memory: tests 3, 5 and 6, then the steps
unfoldable pub run_held : HeldBook → Result B.Summary
run_held h = held_tested h (run_sound (view_book h))

-- and the rows that it reports: zeros where a test refuses the book
unfoldable pub rows_held : HeldBook → List Shares
rows_held h = reported (held_tested h (done (rows_sound (view_book h))))

-- ---- what is promised of an answer
-- demand 2 of a sheet: the whole answer is that of the run
abbrev pub Exact : List ℕ → Summary → Type 0
Exact sheet r = r ≡ run_answer (run_sheet sheet)

-- and of a book in memory
abbrev pub ExactBook : HeldBook → Summary → Type 0
ExactBook h r = r ≡ run_answer (run_held h)

-- the whole answer of a reported run (request 6): the run's own, and its rows
abbrev pub Reports : List ℕ → Report → Type 0
Reports sheet r = r ≡ report (run_answer (run_sheet sheet)) (sheet_rows sheet)

-- and of a book in memory
abbrev pub ReportsBook : HeldBook → Report → Type 0
ReportsBook h r = r ≡ report (run_answer (run_held h)) (rows_held h)

-- demand 3 of a sheet: if its run accepts it, then the claim holds of what is answered, whatever the verdict says
unfoldable pub Encloses : List ℕ → Summary → Type 0
Encloses sheet r = (s : B.Summary) → run_sheet sheet ≡ done s → SheetClaim sheet (summary_of r)

-- and of a book in memory
unfoldable pub EnclosesBook : HeldBook → Summary → Type 0
EnclosesBook h r = (s : B.Summary) → run_held h ≡ done s → Claim (view_book h) (summary_of r)
