-- `product_step` multiplies, and puts the answer.
use native.Mathlib.Omega.{arith}
use Rattle.calculus.specs.Book.{most_models}
use Rattle.sheet_book.specs.BookStruct.{held_step}
use Rattle.sheet_run_inputs.specs.sheet_run_laws.RunIterationLaws.{iteration_small, iteration_first, iteration_second}
use Rattle.sheet_run_inputs.specs.sheet_run_laws.RunIterationLaws.{iteration_room}
use Rattle.sheet_run_inputs.specs.sheet_run_laws.RunIterationLaws.{iteration_rows}
use Rattle.sheet_run_inputs.specs.sheet_run_laws.RunIterationLaws.{iteration_factors, product_iterated}
use borrow.Author.Rules.{rules}
use Rattle.sheet_run_steps.proofs.product_step.Goals as goal

pub product-c-requires : goal.product-c-requires
unfolding held_step most_models
product-c-requires c =
    let t = c.requires.iteration in
    let e = c.requires.s_value in record {
      roomy = (iteration_first t (λ z. omega (arith, z, e)), iteration_second t);
      factors = iteration_factors t e;
      scratch_room = c.requires.served.product e;
    }

pub settled-requires : goal.settled-requires
settled-requires c = let t = c.requires.iteration in record {
  i_lt_most_steps = iteration_small t;
  roomy = iteration_room t;
  rows_len = iteration_rows t;
}

pub returns : goal.returns
unfolding held_step most_models
returns c = λ t.
    let w = c.settled.ensures in
    product_iterated t c.requires.s_value
    c.product-c.ensures w.0 w.1 w.2
