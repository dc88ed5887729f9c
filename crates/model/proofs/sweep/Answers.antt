-- `sweep` makes the tests of the model and of the threshold, then drops the small terms.
use mathlib.Core.Path.{◌≡◌, sym, ◌∙◌, ap}
use borrow.Author.Rules.{rules}
use mir.Facts.{to_z-of_z}
use Rattle.model_types.specs.ModelStruct.{view, verdict, answer}
use Rattle.std.specs.Prelude.{Ok}
use Rattle.model_call_tests.specs.Admission.{sweeping}
use Rattle.model_call_tests.specs.AdmissionLaws.{sweeping_passed, goes_on, is_refused}
use Rattle.model.specs.CallLaws.{sweep_is}
use Rattle.model.proofs.sweep.Goals as goal
use Rattle.model.proofs.sweep.Goals.{After-sweeping-v, In-Ok}

-- the verdict is of the threshold itself
told : (c : After-sweeping-v)
    → c.sweeping-v.result ≡ verdict (sweeping c.args.t (view c.args.m))
told c =
    c.sweeping-v.ensures ∙ ap (λ z. verdict (sweeping z (view c.args.m))) (to_z-of_z c.ranges.t)

-- the tests have passed
module _ (c : In-Ok) where
  passed : verdict (sweeping c.args.t (view c.args.m)) ≡ Ok tt
  passed = sym (told c.before) ∙ c.in-Ok.is

pub swept-requires : goal.swept-requires
swept-requires c = sweeping_passed _ _ (passed (goal.at.swept-requires c).In-Ok)

pub returns-in-Ok : goal.returns-in-Ok
unfolding answer
returns-in-Ok c =
    rw (
      c.swept.ensures,
      c.magnitude.ensures,
      to_z-of_z c.ranges.t,
      sweep_is (view c.args.m) c.args.t ∙ goes_on _ _ (passed (goal.at.returns-in-Ok c).In-Ok),
    )

pub returns-in-Err : goal.returns-in-Err
returns-in-Err c =
    let e = sym (told (goal.at.returns-in-Err c).After-sweeping-v) ∙ c.in-Err.is in
    c.refuse.ensures ∙ ap answer (sym (sweep_is _ _ ∙ is_refused _ _ _ _ e))
