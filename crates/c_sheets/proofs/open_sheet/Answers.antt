-- `open_sheet` opens the sheet and stores two numbers.
use borrow.Author.Rules.{rules}
use borrow.Author.Tests.{le-leb, lt-leb}
use Rattle.model_slices.specs.HandedModelsLaws.{over_two}
use Rattle.c_sheets.specs.StepCalls.{called_open}
use Rattle.c_sheets.proofs.open_sheet.Goals as goal

pub returns-then-numbers-lt-STEP_NUMBERS : goal.returns-then-numbers-lt-STEP_NUMBERS
unfolding called_open
returns-then-numbers-lt-STEP_NUMBERS c = rw (lt-leb 2 _ c.if-numbers-lt-STEP_NUMBERS.true)

pub returns : goal.returns
unfolding called_open
returns c =
    let room = c.if-numbers-lt-STEP_NUMBERS.false in
    rw (
      c.verdict_number.ensures,
      c.verdict_place.ensures,
      over_two c.args.numbers.now _ _ room,
      le-leb 2 _ room,
      c.opened_at-start.ensures,
    )
