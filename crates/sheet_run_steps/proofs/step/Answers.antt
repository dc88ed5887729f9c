-- `step` goes by the code.
use native.Mathlib.Omega.{arith}
use Rattle.sheet_book.specs.BookStruct.{held_step}
use Rattle.sheet_run_steps.proofs.step.Goals as goal

pub input_step-requires : goal.input_step-requires
unfolding held_step
input_step-requires c =
    record { order = c.args.d; iteration = c.requires.iteration; code = c.in-0.is }

pub returns-in-0 : goal.returns-in-0
unfolding held_step
returns-in-0 c = λ t.
    c.input_step.ensures
    (record {
      order = c.args.d;
      iteration = t;
      code = c.in-0.is;
    })

pub product_step-requires : goal.product_step-requires
unfolding held_step
product_step-requires c =
    record {
      iteration = c.requires.iteration;
      served = c.requires.served;
      s_value = c.in-6.is;
    }

pub quotient_step-requires : goal.quotient_step-requires
unfolding held_step
quotient_step-requires c =
    record {
      iteration = c.requires.iteration;
      served = c.requires.served;
      s_value = c.in-9.is;
    }

pub other_step-requires : goal.other_step-requires
unfolding held_step
other_step-requires c =
    record {
      iteration = c.requires.iteration;
      served = c.requires.served;
      fact = (λ e. omega (arith, e), λ e. omega (arith, e), λ e. omega (arith, e));
    }
