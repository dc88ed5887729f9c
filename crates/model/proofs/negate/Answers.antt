-- `negate` makes the tests of one model, then turns its signs.
use mathlib.Core.Path.{◌≡◌, sym, ◌∙◌, ap}
use borrow.Author.Rules.{rules}
use Rattle.model_types.specs.ModelStruct.{view, verdict, answer}
use Rattle.std.specs.Prelude.{Ok}
use Rattle.model_call_tests.specs.Admission.{single_model}
use Rattle.model_call_tests.specs.AdmissionLaws.{single_passed, goes_on, is_refused}
use Rattle.model.specs.CallLaws.{negate_is}
use Rattle.model.proofs.negate.Goals as goal
use Rattle.model.proofs.negate.Goals.{In-Ok}

-- the tests have passed
module _ (c : In-Ok) where
  passed : verdict (single_model (view c.args.m)) ≡ Ok tt
  passed = sym c.single_model-v.ensures ∙ c.in-Ok.is

pub negated-requires : goal.negated-requires
negated-requires c = single_passed _ (passed c)

pub returns-in-Ok : goal.returns-in-Ok
unfolding answer
returns-in-Ok c = rw (
  c.negated.ensures,
  negate_is (view c.args.m)
      ∙ goes_on _ _ (passed (goal.at.returns-in-Ok c).In-Ok),
)

pub returns-in-Err : goal.returns-in-Err
returns-in-Err c =
    let e = sym c.single_model-v.ensures ∙ c.in-Err.is in
    c.refuse.ensures ∙ ap answer (sym (negate_is _ ∙ is_refused _ _ _ _ e))
