-- `integrating` makes the tests of the order, the model and the variable.
use mathlib.Core.Path.{◌≡◌, sym, ◌∙◌}
use mathlib.Core.Bool.{Bool, true, false}
use borrow.Author.Rules.{rules}
use borrow.Author.Tests.{not-true, not-false}
use Rattle.calculus.specs.Model.{Model, sound}
use Rattle.calculus.specs.Refusal.{require_at}
use Rattle.calculus.specs.Tests.{order_sound, variable_sound}
use Rattle.model_types.specs.ModelStruct.{view, refusal, verdict}
use Rattle.model_slices.specs.HandedModels.{handed}
use Rattle.model_call_tests.specs.Admission.{integrating}
use Rattle.model_slice_tests.proofs.integrating.Goals as goal
use Rattle.model_slice_tests.proofs.integrating.Goals.{After-from_one, After-order_sound, After-sound_slices, Start}

abbrev handed-model : Start → Model
handed-model s =
    view (handed s.args.n s.args.count s.args.radius s.args.keys.now s.args.coefficients.now)

-- the tests of the order, the model and the variable
ordered : (c : After-order_sound) (b : Bool) → c.order_sound.result ≡ b → order_sound c.args.d ≡ b
ordered c b h = sym c.order_sound.ensures ∙ h

modelled : (c : After-sound_slices) (b : Bool) → c.sound_slices.result ≡ b
    → sound c.args.d (handed-model c.before.before.before.before.before) ≡ b
modelled c b h = sym c.sound_slices.ensures ∙ h

tested : (c : After-from_one) (b : Bool) → c.from_one.result ≡ b
    → variable_sound (handed-model c.before.before.before.before.before.before.before).vars
    c.args.i ≡ b
unfolding variable_sound view handed
tested c b h = sym c.from_one.ensures ∙ h

pub returns-then-not-order_sound : goal.returns-then-not-order_sound
unfolding require_at integrating refusal verdict
returns-then-not-order_sound c = rw (ordered (goal.at.returns-then-not-order_sound c).After-order_sound false
    (c.if-not-order_sound.true))

pub returns-then-not-sound_slices : goal.returns-then-not-sound_slices
unfolding require_at integrating refusal verdict
returns-then-not-sound_slices c =
    rw (
      ordered (goal.at.returns-then-not-sound_slices c).After-order_sound true (c.if-not-order_sound.false),
      modelled (goal.at.returns-then-not-sound_slices c).After-sound_slices false (c.if-not-sound_slices.true),
    )

pub returns-then-not-from_one : goal.returns-then-not-from_one
unfolding require_at integrating refusal verdict
returns-then-not-from_one c =
    rw (
      ordered (goal.at.returns-then-not-from_one c).After-order_sound true (c.if-not-order_sound.false),
      modelled (goal.at.returns-then-not-from_one c).After-sound_slices true (c.if-not-sound_slices.false),
      tested (goal.at.returns-then-not-from_one c).After-from_one false (c.if-not-from_one.true),
    )

pub returns : goal.returns
unfolding require_at integrating verdict
returns c =
    rw (
      ordered (goal.at.returns c).After-order_sound true (c.if-not-order_sound.false),
      modelled (goal.at.returns c).After-sound_slices true (c.if-not-sound_slices.false),
      tested (goal.at.returns c).After-from_one true (c.if-not-from_one.false),
    )
