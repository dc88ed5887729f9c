-- `tested` makes tests 1 to 4, then tests 5 and 6 on the trailer that passed.
use mathlib.Core.Path.{◌≡◌, sym, ◌∙◌, ap}
use native.Mathlib.Omega.{arith}
use borrow.Author.Rules.{rules}
use Rattle.std.specs.Prelude.{Ok}
use Rattle.model_types.specs.ModelStruct.{verdict}
use Rattle.sheet_tests.specs.Headed.{headed}
use Rattle.sheet_tests.specs.HeadedLaws.{HeadPasses, head_long, head_passes, same_refusal}
use Rattle.sheet_tests.proofs.tested.Goals as goal
use Rattle.sheet_tests.proofs.tested.Goals.{After-trailer_at-t, In-Ok}

-- ---- what is known where tests 1 to 4 pass
accepted : (c : In-Ok) → verdict (headed c.args.sheet.now) ≡ Ok tt
accepted c = sym c.head_tested-v.ensures ∙ c.in-Ok.is

passed : (c : After-trailer_at-t)
    → HeadPasses c.args.sheet.now c.trailer_at-t.result
passed c = head_passes _ (accepted (goal.at.records_tested-requires c).In-Ok) _ c.trailer_at-t.ensures

pub returns-in_default : goal.returns-in_default
returns-in_default c =
    let e = c.in_default.is in
    e ∙ same_refusal _ _ _ (sym c.head_tested-v.ensures ∙ e)

pub overflow_sub-sheet : goal.overflow_sub-sheet
overflow_sub-sheet c = omega (arith, head_long _ (accepted c))

pub trailer_at-t-requires : goal.trailer_at-t-requires
trailer_at-t-requires c = omega (arith, head_long _ (accepted c))

pub records_tested-requires : goal.records_tested-requires
records_tested-requires c = record {
  t = (passed c).limits;
  trailer_length_value = (passed c).fits;
}

pub returns : goal.returns
returns c = c.records_tested.ensures ∙ ap verdict (sym (passed (goal.at.returns c).After-trailer_at-t).goes_on)
