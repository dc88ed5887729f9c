-- `refused` puts rows of zeros beside the refusal.
use Rattle.sheet_run_bytes.specs.RunBytesLaws.{refused_ran}
use Rattle.sheet_run_bytes.proofs.refused.Goals as goal

pub returns : goal.returns
returns c = refused_ran _ _ c.refuse.ensures
