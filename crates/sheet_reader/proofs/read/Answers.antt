-- `read` makes tests 1 to 4, then reads the records by the trailer that passed.
use mathlib.Core.Path.{◌≡◌, sym, ◌∙◌, ap}
use native.Mathlib.Omega.{arith}
use borrow.Author.Rules.{rules}
use Rattle.std.specs.Prelude.{Ok}
use Rattle.model_types.specs.ModelStruct.{verdict}
use Rattle.sheet_book.specs.BookStruct.{read_answer}
use Rattle.sheet_tests.specs.Headed.{headed}
use Rattle.sheet_tests.specs.HeadedLaws.{HeadPasses, head_long, head_passes, head_refused}
use Rattle.sheet_reader.proofs.read.Goals as goal
use Rattle.sheet_reader.proofs.read.Goals.{After-trailer_at-t, In-Ok}

-- ---- what is known where tests 1 to 4 pass
accepted : (c : In-Ok) → verdict (headed c.args.sheet.now) ≡ Ok tt
accepted c = sym c.head_tested-v.ensures ∙ c.in-Ok.is

passed : (c : After-trailer_at-t)
    → HeadPasses c.args.sheet.now c.trailer_at-t.result
passed c = head_passes _ (accepted (goal.at.read_records-requires c).In-Ok) _ c.trailer_at-t.ensures

pub overflow_sub-sheet : goal.overflow_sub-sheet
overflow_sub-sheet c = omega (arith, head_long _ (accepted c))

pub trailer_at-t-requires : goal.trailer_at-t-requires
trailer_at-t-requires c = omega (arith, head_long _ (accepted c))

pub read_records-requires : goal.read_records-requires
read_records-requires c = record {
  t = (passed c).limits;
  trailer_length_value = (passed c).fits;
}

pub returns-in-Ok : goal.returns-in-Ok
returns-in-Ok c = c.read_records.ensures ∙ ap read_answer
    (sym (passed (goal.at.returns-in-Ok c).After-trailer_at-t).goes_on)

pub returns-in-Err : goal.returns-in-Err
returns-in-Err c =
    c.refuse.ensures
    ∙ ap read_answer
    (sym (head_refused _ _ _ (sym c.head_tested-v.ensures ∙ c.in-Err.is)))
