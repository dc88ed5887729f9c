-- `antiderivative` makes the tests of the order, the model and the variable, then integrates.
use mathlib.Core.Path.{◌≡◌, sym, ◌∙◌, ap}
use borrow.Author.Rules.{rules}
use Rattle.model_types.specs.ModelStruct.{view, verdict, answer}
use Rattle.std.specs.Prelude.{Ok}
use Rattle.model_call_tests.specs.Admission.{integrating}
use Rattle.model_call_tests.specs.AdmissionLaws.{integrating_passed, goes_on, is_refused}
use Rattle.model.specs.CallLaws.{antiderivative_is}
use Rattle.model.proofs.antiderivative.Goals as goal
use Rattle.model.proofs.antiderivative.Goals.{In-Ok}

-- the tests have passed
module _ (c : In-Ok) where
  passed : verdict (integrating c.args.d c.args.i (view c.args.f)) ≡ Ok tt
  passed = sym c.integrating-v.ensures ∙ c.in-Ok.is

pub integrated-requires : goal.integrated-requires
unfolding view
integrated-requires c =
    let p = integrating_passed _ _ _ (passed c) in
    record { order = p.order; model = p.model; first = p.least; last = p.most }

pub returns-in-Ok : goal.returns-in-Ok
unfolding answer
returns-in-Ok c =
    rw (
      c.integrated.ensures,
      antiderivative_is _ _ _
          ∙ goes_on _ _ (passed (goal.at.returns-in-Ok c).In-Ok),
    )

pub returns-in-Err : goal.returns-in-Err
returns-in-Err c =
    let e = sym c.integrating-v.ensures ∙ c.in-Err.is in
    c.refuse.ensures ∙ ap answer (sym (antiderivative_is _ _ _ ∙ is_refused _ _ _ _ e))
