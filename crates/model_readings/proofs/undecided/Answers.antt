-- `undecided` takes the contradiction and the verdict apart.
use Rattle.model_readings.specs.RowPassLaws.{at_reading, at_refusal, not_yet}
use Rattle.model_readings.proofs.undecided.Goals as goal

pub returns-in_default : goal.returns-in_default
returns-in_default c = at_reading _ c.in_default.is

pub returns-in_default-v : goal.returns-in_default-v
returns-in_default-v c = at_refusal _ c.in-None.is c.in_default-v.is

pub returns : goal.returns
returns c = not_yet _ c.in-None.is c.in-Ok.is
