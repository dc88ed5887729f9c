-- `run_sheet` tests its slices, runs the sheet and stores the answer.
use mathlib.Core.Path.{sym, ◌∙◌}
use borrow.Author.Rules.{rules}
use borrow.Author.Tests.{le-leb, lt-leb}
use Rattle.model_slices.specs.HandedModelsLaws.{room}
use Rattle.c_runs.specs.SheetCalls.{called_run}
use Rattle.c_runs.specs.RemainderLaws.{sheet_small}
use Rattle.c_runs.proofs.run_sheet.Goals as goal

pub returns-then-not-model_room : goal.returns-then-not-model_room
unfolding called_run
returns-then-not-model_room c = rw (sym c.model_room.ensures ∙ c.if-not-model_room.true)

pub returns-then-ends-lt-ENDS : goal.returns-then-ends-lt-ENDS
unfolding called_run
returns-then-ends-lt-ENDS c =
    rw (sym c.model_room.ensures ∙ c.if-not-model_room.false, lt-leb 6 _ c.if-ends-lt-ENDS.true)

pub store_summary-requires : goal.store_summary-requires
store_summary-requires c =
    let r = room _ _ _ (sym c.model_room.ensures ∙ c.if-not-model_room.false) in
    (r.0, r.1, r.2, c.if-ends-lt-ENDS.false, rw c.run-s.ensures.exact (sheet_small _))

pub returns : goal.returns
unfolding called_run
returns c =
    rw (
      c.store_summary.ensures,
      c.run-s.ensures.exact,
      sym c.model_room.ensures ∙ c.if-not-model_room.false,
      le-leb 6 _ c.if-ends-lt-ENDS.false,
    )
