-- `quotient_step` divides, and puts the answer.
use mathlib.Core.Path.{◌≡◌, sym, ◌∙◌, ap, subst}
use Prim.Native.Nat.{◌+◌}
use native.Mathlib.Omega.{arith}
use lib.IntN.{nat_abs}
use lib.ListN.{get_or}
use mir.Facts.{to_z-of_z}
use mir.Syntax.{w64}
use mir.Val.{to_z, of_z}
use Rattle.calculus.specs.Book.{most_models, most_steps}
use Rattle.sheet_run_inputs.specs.model.OperationContracts.{ScratchRoom, quotient_products}
use Rattle.sheet_book.specs.BookStruct.{held_step}
use Rattle.sheet_run_inputs.specs.sheet_run_laws.RunLaws.{fourth_earlier}
use Rattle.sheet_run_inputs.specs.sheet_run_laws.RunIterationLaws.{iteration_small, iteration_room, iteration_rows}
use Rattle.sheet_run_inputs.specs.sheet_run_laws.RunIterationLaws.{iteration_proposed, quotient_within}
use Rattle.sheet_run_inputs.specs.sheet_run_laws.RunIterationLaws.{quotient_settled}
use borrow.Author.Rules.{rules}
use Rattle.sheet_run_steps.proofs.quotient_step.Goals as goal
use Rattle.sheet_run_steps.proofs.quotient_step.Goals.{After-magnitude}

-- the number that is the last operand
module _ (c : After-magnitude) where
  value_place : c.magnitude.result ≡ nat_abs c.args.s.value
  value_place = c.magnitude.ensures ∙ ap nat_abs read_back
    where
      read_back : to_z w64 (of_z w64 c.args.s.value) ≡ c.args.s.value
      read_back = to_z-of_z {w = w64} (record { sfits = c.struct_told-1.given.1.1.1.1.0.1 })

-- which is that of an earlier step
pub overflow_add-last : goal.overflow_add-last
unfolding held_step most_steps
overflow_add-last c =
    let t = c.requires.iteration in
    omega (arith, value_place c, fourth_earlier t.passes t.at c.requires.s_value, iteration_small t)

pub quotient-q-requires : goal.quotient-q-requires
unfolding held_step most_models
quotient-q-requires c =
    let a = c.args in
    let e = c.requires.s_value in record {
      proposed = iteration_proposed c.requires.iteration e c.magnitude.result
          (value_place (goal.at.quotient-q-requires c).After-magnitude);
      scratch_room = subst (λ j. ScratchRoom (quotient_products (get_or a.counts.now (16 + a.s.b) 0)
          (get_or a.counts.now (16 + a.s.v) 0) (get_or a.counts.now (16 + j) 0))
          a.slots.now a.places.now a.sums.now) (sym (value_place (goal.at.quotient-q-requires c).After-magnitude))
          (c.requires.served.quotient e);
    }

pub all_carried-c-requires : goal.all_carried-c-requires
unfolding held_step most_models
all_carried-c-requires c =
    quotient_within c.requires.iteration c.requires.s_value c.magnitude.result
    (value_place (goal.at.all_carried-c-requires c).After-magnitude) c.quotient-q.ensures

pub settled-requires : goal.settled-requires
settled-requires c =
    let t = c.requires.iteration in
    record {
      i_lt_most_steps = iteration_small t;
      roomy = iteration_room t;
      rows_len = iteration_rows t;
    }

pub returns : goal.returns
unfolding held_step most_models
returns c = λ t.
    let w = c.settled.ensures in
    quotient_settled t c.requires.s_value c.magnitude.result (value_place (goal.at.returns c).After-magnitude)
    c.quotient-q.ensures c.all_carried-c.ensures w.0 w.1 w.2
