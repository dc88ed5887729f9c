-- `packed_answer` packs the terms, or refuses.
use Rattle.product_answer.specs.KeptProductLaws.{answer_accepted, answer_refused}
use Rattle.product_answer.proofs.packed_answer.Goals as goal

pub pack-requires : goal.pack-requires
pack-requires c = c.requires.ready c.in-Ok.is

pub returns-in-Ok : goal.returns-in-Ok
returns-in-Ok c = answer_accepted _ _ _ _ c.in-Ok.is c.pack.ensures

pub returns-in-Err : goal.returns-in-Err
returns-in-Err c = answer_refused _ _ _ _ _ _ c.in-Err.is c.refuse.ensures
