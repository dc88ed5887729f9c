-- `other_step` takes out what the code names, and puts the answer.
use mathlib.Core.Path.{◌≡◌, ◌∙◌, ap}
use mathlib.Core.Bool.{cond}
use Prim.Native.Nat.{◌+◌}
use lib.Dec.{leb}
use Rattle.calculus.specs.Book.{most_models}
use Rattle.calculus.specs.Model.{zero_model}
use Rattle.model_types.specs.declared.Model.{Model}
use Rattle.model_types.specs.ModelStruct.{view}
use Rattle.sheet_book.specs.BookStruct.{held_step}
use Rattle.sheet_results.specs.Results.{Results, results, held_result}
use Rattle.sheet_run_laws.specs.sheet_steps.Steps.{negate_code, names_second}
use Rattle.sheet_run_laws.specs.RunIterationLaws.{iteration_small, iteration_first, iteration_second, iteration_room}
use Rattle.sheet_run_laws.specs.RunIterationLaws.{iteration_rows}
use Rattle.sheet_run_laws.specs.RunIterationLaws.{other_ready, other_room, other_iterated}
use borrow.Author.Rules.{rules}
use Rattle.sheet_run_others.proofs.other_step.Goals as goal
use Rattle.sheet_run_others.proofs.other_step.Goals.{After-operand-g}

pub operand-f-requires : goal.operand-f-requires
unfolding held_step most_models
operand-f-requires c =
    iteration_first c.requires.iteration c.requires.fact.0

pub operand-g-requires : goal.operand-g-requires
unfolding held_step most_models
operand-g-requires c = iteration_second c.requires.iteration

-- what is taken out
module _ (c : After-operand-g) where
  abbrev memory : Results
  memory = results c.args.keys.now c.args.coefficients.now c.args.counts.now
      c.args.radii.now

  abbrev first : Model
  first = c.operand-f.result

  abbrev second : Model
  second = c.operand-g.result

  is_first : view first
      ≡ cond (leb negate_code c.args.s.code) (view (held_result c.args.n memory
      (most_models + c.args.s.a)))
      (zero_model c.args.n)
  unfolding most_models
  is_first = c.operand-f.ensures

  is_second : view second
      ≡ cond (names_second c.args.s.code) (view (held_result c.args.n memory (most_models + c.args.s.b)))
      (zero_model c.args.n)
  unfolding most_models
  is_second = c.operand-g.ensures
      ∙ ap (λ b. cond b (view (held_result c.args.n memory (most_models + c.args.s.b))) (zero_model c.args.n))
      c.names_second-second.ensures

pub step_answer-c-requires : goal.step_answer-c-requires
unfolding held_step
step_answer-c-requires c =
    let p = c.requires.fact in record {
      step_ready = other_ready c.requires.iteration (first (goal.at.step_answer-c-requires c).After-operand-g)
          (second (goal.at.step_answer-c-requires c).After-operand-g)
          (is_first (goal.at.step_answer-c-requires c).After-operand-g)
          (is_second (goal.at.step_answer-c-requires c).After-operand-g) p.0 p.1 p.2;
      scratch_room = other_room c.requires.iteration (first (goal.at.step_answer-c-requires c).After-operand-g)
          (second (goal.at.step_answer-c-requires c).After-operand-g)
          (is_first (goal.at.step_answer-c-requires c).After-operand-g)
          (is_second (goal.at.step_answer-c-requires c).After-operand-g) p.0 p.1 p.2 c.requires.served;
    }

pub settled-requires : goal.settled-requires
settled-requires c = let t = c.requires.iteration in record {
  i_lt_most_steps = iteration_small t;
  roomy = iteration_room t;
  rows_len = iteration_rows t;
}

pub returns : goal.returns
unfolding held_step
returns c = λ t.
    let p = c.requires.fact in
    let w = c.settled.ensures in
    other_iterated t (first (goal.at.returns c).After-operand-g) (second (goal.at.returns c).After-operand-g)
    (is_first (goal.at.returns c).After-operand-g) (is_second (goal.at.returns c).After-operand-g) p.0 p.1 p.2
    c.step_answer-c.ensures w.0 w.1 w.2
