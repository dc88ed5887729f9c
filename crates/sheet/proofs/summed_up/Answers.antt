-- `summed_up` summarizes the last result, or hands the refusal on, beside the rows.
use Rattle.std.proofs.Common.{◌∙◌}
use Rattle.sheet.specs.SheetLaws.{summed_read, stopped_read, rows_read}
use Rattle.sheet.proofs.summed_up.Goals as goal

pub returns-in_default : goal.returns-in_default
returns-in_default c = λ t. rows_read t (c.refused.ensures ∙ stopped_read t c.in_default.is)

pub summarized-requires : goal.summarized-requires
summarized-requires c = let s = summed_read c.requires c.in-Ok.is in (s.is_sound, s.is_packed)

pub returns : goal.returns
returns c = λ t. rows_read t (c.summarized.ensures ∙ (summed_read t c.in-Ok.is).answers_run)
