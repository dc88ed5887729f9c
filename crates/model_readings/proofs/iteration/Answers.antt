use mathlib.Core.Path.{◌≡◌, sym, ◌∙◌, ap}
use Prim.Native.Nat.{◌<◌, ◌/◌, ◌%◌}
use native.Mathlib.Omega.{arith}
use Rattle.model_types.specs.ModelStruct.{view}
use Rattle.model_readings.specs.ReadingStruct.{view_reading, finding}
use Rattle.model_readings.specs.RowIterations.{check, found_in}
use Rattle.model_readings.specs.FindingLaws.{phase_found}
use Rattle.model_readings.specs.RowPassLaws.{found_stays, found_next}
use Rattle.model_readings.proofs.iteration.Goals as goal

pub returns-then-not-undecided : goal.returns-then-not-undecided
returns-then-not-undecided c = sym (found_stays _ _ _ _ _ (sym c.undecided.ensures ∙ c.if-not-undecided.true))

pub nonzero_div-k : goal.nonzero_div-k
nonzero_div-k c = omega (arith, c.at_least_one-d.ensures)

pub nonzero_rem-k : goal.nonzero_rem-k
nonzero_rem-k c = omega (arith, c.at_least_one-d.ensures)

pub returns : goal.returns
returns c =
    c.checked.ensures
    ∙ ap (λ p. finding (found_in p (c.args.k % c.at_least_one-d.result) (view c.args.m) (view_reading c.args.r)))
    c.phase_of.ensures
    ∙ ap finding (phase_found (c.args.k / c.at_least_one-d.result) _ _ _)
    ∙ ap (λ d. finding (check (c.args.k / d) (c.args.k % d) (view c.args.m) (view_reading c.args.r)))
    c.at_least_one-d.ensures
    ∙ found_next _ _ _ _ _ (sym c.undecided.ensures ∙ c.if-not-undecided.false)
