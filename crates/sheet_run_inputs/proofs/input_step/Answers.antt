-- `input_step` takes out the model that is named, and puts it.
use Rattle.sheet_book.specs.BookStruct.{held_step}
use Rattle.sheet_run_laws.specs.RunIterationLaws.{iteration_small, iteration_room, iteration_rows, iteration_model}
use Rattle.sheet_run_laws.specs.RunIterationLaws.{iteration_input, input_iterated}
use borrow.Author.Rules.{rules}
use Rattle.sheet_run_inputs.proofs.input_step.Goals as goal

pub result-f-requires : goal.result-f-requires
unfolding held_step
result-f-requires c = let t = c.requires in
    iteration_model t.iteration t.code

pub input_answer-c-requires : goal.input_answer-c-requires
unfolding held_step
input_answer-c-requires c =
    let t = c.requires in
    iteration_input t.iteration c.result-f.result t.code c.result-f.ensures

pub settled-requires : goal.settled-requires
settled-requires c =
    let t = c.requires.iteration in
    record {
      i_lt_most_steps = iteration_small t;
      roomy = iteration_room t;
      rows_len = iteration_rows t;
    }

pub returns : goal.returns
unfolding held_step
returns c = λ t.
    let f = c.result-f in
    let w = c.settled.ensures in
    input_iterated t.iteration f.result t.code f.ensures c.input_answer-c.ensures w.0 w.1 w.2
