-- `input_answer` clears what stands beyond the count, and carries the radius.
use borrow.Author.Rules.{rules}
use Rattle.calculus.specs.Refusal.{accepted}
use Rattle.model_types.specs.ModelStruct.{view}
use Rattle.sheet_steps.proofs.StepLaws.{input_bounded, input_given}
use Rattle.sheet_steps.proofs.input_answer.Goals as goal

pub all_carried-requires : goal.all_carried-requires
all_carried-requires c =
    input_bounded c.args.input c.requires c.cleared.ensures c.accepted.ensures

pub returns : goal.returns
returns c =
    let m = c.args.input in
    c.all_carried.ensures (accepted (view m)) (input_given m c.cleared.ensures c.accepted.ensures)
