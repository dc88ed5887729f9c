-- `run_reported` runs the sheet, and sums up what that leads to. What it encloses follows from its exact answer.
use Rattle.sheet.specs.SheetLaws.{reported_answer, exact_encloses, sheet_run, sheet_report}
use Rattle.sheet.proofs.run_reported.Goals as goal

pub summed_up-requires : goal.summed_up-requires
summed_up-requires c = sheet_run _ c.run_sheet-ran.ensures

pub returns : goal.returns
returns c =
    let e = sheet_report _ c.run_sheet-ran.ensures c.summed_up.ensures in
    record { exact = e; encloses = exact_encloses _ _ (reported_answer _ _ e) }
