-- `verdict_number` reads the number of a refusal.
use Rattle.model_types.specs.ModelStruct.{verdict_number}
use Rattle.model_slices.proofs.verdict_number.Goals as goal

pub returns-in-Ok : goal.returns-in-Ok
unfolding verdict_number
returns-in-Ok c = rw c.in-Ok.is

pub returns-in-Err : goal.returns-in-Err
unfolding verdict_number
returns-in-Err c = rw c.in-Err.is c.number.ensures
