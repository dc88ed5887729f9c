-- `checked` does what its phase asks.
use Rattle.std.proofs.Common.{sym, ◌∙◌, ap}
use Rattle.model_types.specs.ModelStruct.{view}
use Rattle.model_readings.specs.ReadingStruct.{view_reading, finding}
use Rattle.model_readings.specs.RowIterations.{found_in}
use Rattle.model_readings.proofs.checked.Goals as goal

pub returns-in-Order : goal.returns-in-Order
unfolding found_in
returns-in-Order c =
    c.in_order.ensures
    ∙ ap (λ p. finding (found_in p c.args.i (view c.args.m.now) (view_reading c.args.r))) (sym c.in-Order.is)

pub returns-in-Unused : goal.returns-in-Unused
unfolding found_in view
returns-in-Unused c =
    c.unused_at.ensures
    ∙ ap (λ p. finding (found_in p c.args.i (view c.args.m.now) (view_reading c.args.r))) (sym c.in-Unused.is)

pub returns-in-Within : goal.returns-in-Within
unfolding found_in view
returns-in-Within c =
    c.within_at.ensures
    ∙ ap (λ p. finding (found_in p c.args.i (view c.args.m.now) (view_reading c.args.r))) (sym c.in-Within.is)

pub returns-in-Evaluation : goal.returns-in-Evaluation
unfolding found_in
returns-in-Evaluation c =
    c.judged.ensures _ c.evaluate.ensures
    ∙ ap (λ p. finding (found_in p c.args.i (view c.args.m.now) (view_reading c.args.r))) (sym c.in-Evaluation.is)
