-- `run_book_reported` makes the tests and runs the book. What it encloses follows from its exact answer.
use Rattle.std.proofs.Common.{sym, ◌∙◌, ap, ap₂, []}
use Rattle.calculus.specs.Shares.{all_rows}
use Rattle.sheet_book.specs.TestedLaws.{verdict_accepted}
use Rattle.sheet_book.specs.SummaryStruct.{refused_summary, run_answer}
use Rattle.sheet_book.specs.ReportStruct.{report}
use Rattle.sheet.specs.SheetLaws.{reported_answer, exact_encloses_book, tested_accepted, tested_rows, tested_refused}
use Rattle.sheet.proofs.run_book_reported.Goals as goal

pub returns-in_default : goal.returns-in_default
returns-in_default c =
    let v = c.in_default.is in
    let e = c.refused_report.ensures ∙ ap (λ v. report (refused_summary v) (all_rows [])) v
    ∙ tested_refused _ _ _ (sym c.tested-v.ensures ∙ v) in
    record { exact = e; encloses = exact_encloses_book _ _ (reported_answer _ _ e) }

pub run_passed-requires : goal.run_passed-requires
run_passed-requires c = verdict_accepted _ (sym c.tested-v.ensures ∙ c.in-Ok.is)

pub returns : goal.returns
returns c =
    let a = sym c.tested-v.ensures ∙ c.in-Ok.is in
    let e = c.run_passed.ensures ∙ ap₂ report (ap run_answer (tested_accepted _ a)) (tested_rows _ a) in
    record { exact = e; encloses = exact_encloses_book _ _ (reported_answer _ _ e) }
