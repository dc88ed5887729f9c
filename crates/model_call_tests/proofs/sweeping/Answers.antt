-- `sweeping` makes the tests of the model and of the threshold.
use mathlib.Core.Path.{◌≡◌, sym, ◌∙◌, ap}
use mathlib.Core.Bool.{true, false}
use borrow.Author.Rules.{rules}
use borrow.Author.Tests.{not-true, not-false}
use mir.Facts.{to_z-of_z}
use Rattle.calculus.specs.Model.{most_degree, sound}
use Rattle.calculus.specs.Refusal.{require_at}
use Rattle.calculus.specs.Tests.{threshold_sound}
use Rattle.model_types.specs.ModelStruct.{view, refusal, verdict}
use Rattle.model_call_tests.specs.Admission.{sweeping}
use Rattle.model_call_tests.proofs.sweeping.Goals as goal
use Rattle.model_call_tests.proofs.sweeping.Goals.{After-threshold_within_limits, Else-not-sound, Then-not-sound}

fails : (c : Then-not-sound) → sound most_degree (view c.args.m) ≡ false
unfolding most_degree
fails c = sym c.sound.ensures ∙ c.if-not-sound.true

holds : (c : Else-not-sound) → sound most_degree (view c.args.m) ≡ true
unfolding most_degree
holds c = sym c.sound.ensures ∙ c.if-not-sound.false

within : (c : After-threshold_within_limits)
    → c.threshold_within_limits.result ≡ threshold_sound c.args.t
unfolding threshold_sound
within c = c.threshold_within_limits.ensures ∙ ap threshold_sound (to_z-of_z c.ranges.t)

pub returns-then-not-sound : goal.returns-then-not-sound
unfolding require_at sweeping refusal verdict
returns-then-not-sound c = rw (fails c)

pub returns-then-not-threshold_within_limits : goal.returns-then-not-threshold_within_limits
unfolding require_at sweeping refusal verdict
returns-then-not-threshold_within_limits c = rw (
  holds
      (goal.at.returns-then-not-threshold_within_limits c).Else-not-sound,
  sym (within (goal.at.returns-then-not-threshold_within_limits c).After-threshold_within_limits)
      ∙ c.if-not-threshold_within_limits.true,
)

pub returns : goal.returns
unfolding require_at sweeping verdict
returns c = rw (
  holds (goal.at.returns c).Else-not-sound,
  sym (within (goal.at.returns c).After-threshold_within_limits) ∙ c.if-not-threshold_within_limits.false,
)
