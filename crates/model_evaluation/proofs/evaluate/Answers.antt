-- `evaluate` makes the tests of the model and the coordinates, then evaluates.
use mathlib.Core.Path.{◌≡◌, sym, ◌∙◌, ap}
use borrow.Author.Rules.{rules}
use Rattle.model_types.specs.ModelStruct.{view, verdict, bounds}
use Rattle.std.specs.Prelude.{Ok}
use Rattle.model_call_tests.specs.Admission.{at_point}
use Rattle.model_call_tests.specs.AdmissionLaws.{point_passed, goes_on, is_refused}
use Rattle.model_evaluation.specs.EvaluateCallLaws.{evaluate_is}
use Rattle.model_evaluation.proofs.evaluate.Goals as goal
use Rattle.model_evaluation.proofs.evaluate.Goals.{In-Ok}

-- the tests have passed
module _ (c : In-Ok) where
  passed : verdict (at_point c.args.xs (view c.args.m)) ≡ Ok tt
  passed = sym c.at_point-v.ensures ∙ c.in-Ok.is

pub evaluated-requires : goal.evaluated-requires
unfolding view
evaluated-requires c =
    let p = point_passed _ _ (passed c) in record { model = p.model; coordinates = p.coordinates }

pub returns-in-Ok : goal.returns-in-Ok
unfolding view
returns-in-Ok c =
    c.evaluated.ensures ∙ ap bounds (sym (evaluate_is _ _
    ∙ goes_on _ _ (passed (goal.at.returns-in-Ok c).In-Ok)))

pub returns-in-Err : goal.returns-in-Err
returns-in-Err c =
    let e = sym c.at_point-v.ensures ∙ c.in-Err.is in
    c.refuse_bounds.ensures ∙ ap bounds (sym (evaluate_is _ _ ∙ is_refused _ _ _ _ e))
