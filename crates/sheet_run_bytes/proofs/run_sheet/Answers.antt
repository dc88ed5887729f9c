-- `run_sheet` makes tests 1 to 4, and goes on by the trailer that passed.
use Rattle.std.proofs.Common.{sym, ◌∙◌, arith}
use Rattle.calculus.specs.Model.{most_terms}
use Rattle.calculus.specs.Book.{most_models}
use Rattle.sheet_loading.specs.sheet_tests.HeadedLaws.{head_long, head_passes}
use Rattle.sheet_run_bytes.specs.RunBytesLaws.{head_ran, steps_most}
use Rattle.sheet_run_bytes.proofs.run_sheet.Goals as goal

pub overflow_sub-sheet : goal.overflow_sub-sheet
overflow_sub-sheet c = omega (arith, head_long c.args.sheet.now (sym c.head_tested-v.ensures ∙ c.in_default.is))

pub trailer_at-t-requires : goal.trailer_at-t-requires
trailer_at-t-requires c =
    omega (arith, head_long c.args.sheet.now (sym c.head_tested-v.ensures ∙ c.in_default.is))

pub run_in-requires-clause-head_passes : goal.run_in-requires-clause-head_passes
run_in-requires-clause-head_passes c =
    head_passes _ (sym c.head_tested-v.ensures ∙ c.in_default.is) _ c.trailer_at-t.ensures

pub run_in-requires-clause-sizes : goal.run_in-requires-clause-sizes
unfolding most_terms most_models
run_in-requires-clause-sizes c =
    (omega (arith, c.if-total-le-FEW_STEPS.true), omega arith, omega arith, omega arith)

pub run_in-requires-in_default-clause-head_passes : goal.run_in-requires-in_default-clause-head_passes
run_in-requires-in_default-clause-head_passes c =
    head_passes _ (sym c.head_tested-v.ensures ∙ c.in_default.is) _ c.trailer_at-t.ensures

pub run_in-requires-in_default-clause-sizes : goal.run_in-requires-in_default-clause-sizes
unfolding most_terms most_models
run_in-requires-in_default-clause-sizes c =
    let p = head_passes _ (sym c.head_tested-v.ensures ∙ c.in_default.is) _ c.trailer_at-t.ensures in
    (omega (arith, steps_most p), omega arith, omega arith, omega arith)

pub returns : goal.returns
returns c = c.refused.ensures ∙ head_ran _ _ _ (sym c.head_tested-v.ensures ∙ c.in-Err.is)
