-- `substituting` makes the tests of a product, then that of the variable.
use mathlib.Core.Path.{◌≡◌, sym, ◌∙◌}
use mathlib.Core.Bool.{Bool, true, false}
use borrow.Author.Rules.{rules}
use borrow.Author.Tests.{not-true, not-false}
use Rattle.calculus.specs.Refusal.{bad_step, done, require_at}
use Rattle.calculus.specs.Tests.{variable_sound}
use Rattle.model_types.specs.ModelStruct.{view, refusal, verdict}
use Rattle.model_call_tests.specs.Admission.{substituting}
use Rattle.model_call_tests.specs.AdmissionLaws.{substituting_refused, by_variable}
use Rattle.model_call_tests.proofs.substituting.Goals as goal
use Rattle.model_call_tests.proofs.substituting.Goals.{After-from_one, In-Ok}

-- the tests of a product have passed: the variable decides
module _ (c : In-Ok) where
  decided : substituting c.args.d c.args.i (view c.args.f) (view c.args.g)
      ≡ require_at 0 (variable_sound (view c.args.f).vars c.args.i) bad_step (done tt)
  decided = by_variable _ _ _ _ (sym c.ordered-v.ensures ∙ c.in-Ok.is)

pub returns-in_default : goal.returns-in_default
returns-in_default c =
    let v = c.in_default.is in
    v ∙ sym (substituting_refused _ _ _ _ _ _ (sym c.ordered-v.ensures ∙ v))

-- the variable's test
tested : (c : After-from_one) (b : Bool) → c.from_one.result ≡ b
    → variable_sound (view c.args.f).vars c.args.i ≡ b
unfolding variable_sound view
tested c b h = sym c.from_one.ensures ∙ h

pub returns-then-not-from_one : goal.returns-then-not-from_one
unfolding require_at refusal verdict
returns-then-not-from_one c =
    rw (
      decided (goal.at.returns-then-not-from_one c).In-Ok,
      tested (goal.at.returns-then-not-from_one c).After-from_one false (c.if-not-from_one.true),
    )

pub returns : goal.returns
unfolding require_at verdict
returns c =
    rw (
      decided (goal.at.returns c).In-Ok,
      tested (goal.at.returns c).After-from_one true
          (c.if-not-from_one.false),
    )
