-- `next_record` asks what the record at the place is, copies its bytes, and stores two numbers.
use borrow.Author.Rules.{rules}
use borrow.Author.Tests.{le-leb, lt-leb}
use Rattle.model_slices.specs.HandedModelsLaws.{over_two}
use Rattle.c_sheets.specs.StepCalls.{called_next}
use Rattle.c_sheets.proofs.next_record.Goals as goal

pub returns-then-numbers-lt-STEP_NUMBERS : goal.returns-then-numbers-lt-STEP_NUMBERS
unfolding called_next
returns-then-numbers-lt-STEP_NUMBERS c = rw (lt-leb 2 _ c.if-numbers-lt-STEP_NUMBERS.true)

pub returns : goal.returns
unfolding called_next
returns c =
    let room = c.if-numbers-lt-STEP_NUMBERS.false in
    rw (
      c.kind_number.ensures,
      c.kind_from-kind.ensures,
      c.copy.ensures,
      c.bytes_from-found.ensures,
      c.place_after-next.ensures,
      over_two c.args.numbers.now _ _ room,
      le-leb 2 _ room,
    )
