-- `restore_model` tests the room, makes the call and stores its answer.
use mathlib.Core.Path.{sym, ◌∙◌}
use Rattle.model_slices.specs.HandedModelsLaws.{room}
use Rattle.c_calls.specs.CallCodes.{called}
use Rattle.c_archive.proofs.restore_model.Goals as goal

pub returns-then-not-model_room : goal.returns-then-not-model_room
unfolding called
returns-then-not-model_room c = rw (sym c.model_room.ensures ∙ c.if-not-model_room.true)

pub store_answer-requires : goal.store_answer-requires
store_answer-requires c = room _ _ _ (sym c.model_room.ensures ∙ c.if-not-model_room.false)

pub returns : goal.returns
unfolding called
returns c =
    rw (c.store_answer.ensures, c.restore-a.ensures, sym c.model_room.ensures ∙ c.if-not-model_room.false)
