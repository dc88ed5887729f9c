-- `run_passed` runs the steps, and sums up what they lead to.
use Rattle.sheet.specs.SheetLaws.{book_run, book_report}
use Rattle.sheet.proofs.run_passed.Goals as goal

pub summed_up-requires : goal.summed_up-requires
summed_up-requires c = book_run c.requires c.last_result-ran.ensures

pub returns : goal.returns
returns c = book_report c.requires c.last_result-ran.ensures c.summed_up.ensures
