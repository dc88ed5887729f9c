-- `packed_answer` packs the terms, or refuses.
use borrow.Author.Rules.{rules}
use Rattle.model_substitution.specs.OwnSlicesLaws.{answer_accepted, answer_refused}
use Rattle.model_substitution.proofs.packed_answer.Goals as goal

pub packed-requires : goal.packed-requires
packed-requires c =
    (c.requires.0 c.in-Ok.is, c.requires.1)

pub returns-in-Ok : goal.returns-in-Ok
returns-in-Ok c = answer_accepted _ _ c.in-Ok.is c.packed.ensures

pub returns-in-Err : goal.returns-in-Err
returns-in-Err c = answer_refused _ _ _ _ c.in-Err.is c.refuse.ensures
