-- `integral` makes the tests of one model, then takes its integral.
use mathlib.Core.Path.{◌≡◌, sym, ◌∙◌, ap}
use borrow.Author.Rules.{rules}
use Rattle.model_types.specs.ModelStruct.{view, verdict, integral_answer}
use Rattle.std.specs.Prelude.{Ok}
use Rattle.model_call_tests.specs.Admission.{single_model}
use Rattle.model_call_tests.specs.AdmissionLaws.{single_passed, goes_on, is_refused}
use Rattle.model.specs.CallLaws.{integral_is}
use Rattle.model.proofs.integral.Goals as goal
use Rattle.model.proofs.integral.Goals.{In-Ok}

-- the tests have passed
module _ (c : In-Ok) where
  passed : verdict (single_model (view c.args.m)) ≡ Ok tt
  passed = sym c.single_model-v.ensures ∙ c.in-Ok.is

pub integral_of-requires : goal.integral_of-requires
integral_of-requires c = single_passed _ (passed c)

pub returns-in-Ok : goal.returns-in-Ok
returns-in-Ok c = c.integral_of.ensures ∙ ap integral_answer
    (sym (integral_is _ ∙ goes_on _ _ (passed (goal.at.returns-in-Ok c).In-Ok)))

pub returns-in-Err : goal.returns-in-Err
returns-in-Err c =
    let e = sym c.single_model-v.ensures ∙ c.in-Err.is in
    c.refuse_integral.ensures ∙ ap integral_answer (sym (integral_is _ ∙ is_refused _ _ _ _ e))
