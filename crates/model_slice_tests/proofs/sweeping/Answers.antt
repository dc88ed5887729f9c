-- `sweeping` makes the test of the model, then that of the threshold.
use mathlib.Core.Path.{◌≡◌, sym, ◌∙◌, ap}
use mathlib.Core.Bool.{Bool, true, false}
use borrow.Author.Rules.{rules}
use borrow.Author.Tests.{not-true, not-false}
use mir.Facts.{to_z-of_z}
use Rattle.calculus.specs.Model.{Model}
use Rattle.calculus.specs.Refusal.{bad_step, done, require_at}
use Rattle.calculus.specs.Tests.{threshold_sound}
use Rattle.model_types.specs.ModelStruct.{view, refusal, verdict}
use Rattle.model_slices.specs.HandedModels.{handed}
use Rattle.model_call_tests.specs.Admission.{sweeping}
use Rattle.model_slice_tests.specs.SliceTestLaws.{sweeping_refused, by_threshold}
use Rattle.model_slice_tests.proofs.sweeping.Goals as goal
use Rattle.model_slice_tests.proofs.sweeping.Goals.{After-threshold_within_limits, In-Ok, Start}

abbrev handed-model : Start → Model
handed-model s =
    view (handed s.args.n s.args.count s.args.radius s.args.keys.now s.args.coefficients.now)

-- the test of the model has passed: the threshold decides
module _ (c : In-Ok) where
  decided : sweeping c.args.t (handed-model c.before.before.before.before)
      ≡ require_at 0 (threshold_sound c.args.t) bad_step (done tt)
  decided = by_threshold _ _ (sym c.single_model-v.ensures ∙ c.in-Ok.is)

pub returns-in_default : goal.returns-in_default
returns-in_default c =
    let v = c.in_default.is in
    v ∙ sym (sweeping_refused _ _ _ _ (sym c.single_model-v.ensures ∙ v))

-- the threshold's test
tested : (c : After-threshold_within_limits) (b : Bool) → c.threshold_within_limits.result ≡ b
    → threshold_sound c.args.t ≡ b
unfolding threshold_sound
tested c b h =
    sym (c.threshold_within_limits.ensures ∙ ap threshold_sound (to_z-of_z c.ranges.t)) ∙ h

pub returns-then-not-threshold_within_limits : goal.returns-then-not-threshold_within_limits
unfolding require_at refusal verdict
returns-then-not-threshold_within_limits c =
    rw (
      decided (goal.at.returns-then-not-threshold_within_limits c).In-Ok,
      tested (goal.at.returns-then-not-threshold_within_limits c).After-threshold_within_limits false
          (c.if-not-threshold_within_limits.true),
    )

pub returns : goal.returns
unfolding require_at verdict
returns c =
    rw (
      decided (goal.at.returns c).In-Ok,
      tested (goal.at.returns c).After-threshold_within_limits true
          (c.if-not-threshold_within_limits.false),
    )
