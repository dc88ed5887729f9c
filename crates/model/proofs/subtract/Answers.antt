-- `subtract` makes the tests of two models, then subtracts the second.
use mathlib.Core.Path.{◌≡◌, sym, ◌∙◌, ap}
use borrow.Author.Rules.{rules}
use Rattle.calculus.specs.Model.{most_degree}
use Rattle.model_types.specs.ModelStruct.{view, verdict, answer}
use Rattle.std.specs.Prelude.{Ok}
use Rattle.model_call_tests.specs.Admission.{two_models}
use Rattle.model_call_tests.specs.AdmissionLaws.{two_passed, goes_on, is_refused}
use Rattle.model.specs.CallLaws.{subtract_is}
use Rattle.model.proofs.subtract.Goals as goal
use Rattle.model.proofs.subtract.Goals.{In-Ok}

-- the tests have passed
module _ (c : In-Ok) where
  passed : verdict (two_models most_degree (view c.args.a) (view c.args.b)) ≡ Ok tt
  unfolding most_degree
  passed = sym c.two_models-v.ensures ∙ c.in-Ok.is

pub subtracted-requires : goal.subtracted-requires
unfolding view
subtracted-requires c =
    let p = two_passed _ _ _ (passed c) in record { first = p.first; second = p.second; vars = p.vars }

pub returns-in-Ok : goal.returns-in-Ok
returns-in-Ok c = c.subtracted.ensures ∙ ap answer
    (sym (subtract_is _ _ ∙ goes_on _ _ (passed (goal.at.returns-in-Ok c).In-Ok)))

pub returns-in-Err : goal.returns-in-Err
unfolding most_degree
returns-in-Err c =
    let e = sym c.two_models-v.ensures ∙ c.in-Err.is in
    c.refuse.ensures ∙ ap answer (sym (subtract_is _ _ ∙ is_refused _ _ _ _ e))
