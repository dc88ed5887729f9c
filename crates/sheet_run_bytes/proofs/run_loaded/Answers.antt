-- `run_loaded` loads the records, and runs the steps unless a test refuses them.
use Rattle.std.proofs.Common.{◌∙◌}
use Rattle.sheet_run_bytes.specs.RunBytesLaws.{records_ran, prepared, steps_ran}
use Rattle.sheet_run_bytes.proofs.run_loaded.Goals as goal

pub run_steps-requires : goal.run_steps-requires
run_steps-requires c =
    prepared c.requires.head_passes c.load_records-p.ensures c.in_default.is c.requires.roomy

pub returns-in_default : goal.returns-in_default
returns-in_default c =
    steps_ran c.requires.head_passes c.load_records-p.ensures c.in_default.is c.requires.roomy c.run_steps.ensures

pub returns : goal.returns
returns c = c.refused.ensures ∙ records_ran c.requires.head_passes c.load_records-p.ensures c.in-Err.is
