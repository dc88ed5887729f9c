-- `run_book` hands the summary of a reported run on.
use Rattle.sheet.specs.SheetLaws.{reported_answer}
use Rattle.sheet.proofs.run_book.Goals as goal

pub returns-clause-exact : goal.returns-clause-exact
returns-clause-exact c = reported_answer _ _ c.run_book_reported-r.ensures.exact
