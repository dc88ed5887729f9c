-- `verdict_place` reads the place of a refusal.
use Rattle.model_types.specs.ModelStruct.{verdict_place}
use Rattle.model_slices.proofs.verdict_place.Goals as goal

pub returns-in-Ok : goal.returns-in-Ok
unfolding verdict_place
returns-in-Ok c = rw c.in-Ok.is

pub returns-in-Err : goal.returns-in-Err
unfolding verdict_place
returns-in-Err c = rw c.in-Err.is
