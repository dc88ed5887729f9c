-- `refused_report` puts zeros for all rows beside the refusal.
use Rattle.sheet.specs.SheetLaws.{zero_rows}
use Rattle.sheet.proofs.refused_report.Goals as goal

pub returns : goal.returns
returns c = zero_rows c.refused.ensures
