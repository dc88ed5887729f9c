-- `single_model` is the test of the model.
use mathlib.Core.Path.{◌≡◌, sym, ◌∙◌}
use mathlib.Core.Bool.{true, false}
use borrow.Author.Rules.{rules}
use borrow.Author.Tests.{not-true, not-false}
use Rattle.calculus.specs.Model.{Model, most_degree, sound}
use Rattle.calculus.specs.Refusal.{require_at}
use Rattle.model_types.specs.ModelStruct.{view, refusal, verdict}
use Rattle.model_slices.specs.HandedModels.{handed}
use Rattle.model_call_tests.specs.Admission.{single_model}
use Rattle.model_slice_tests.proofs.single_model.Goals as goal
use Rattle.model_slice_tests.proofs.single_model.Goals.{Else-not-sound_slices, Start, Then-not-sound_slices}

abbrev handed-model : Start → Model
handed-model s =
    view (handed s.args.n s.args.count s.args.radius s.args.keys.now s.args.coefficients.now)

fails : (c : Then-not-sound_slices) → sound most_degree (handed-model c.before.before.before.before) ≡ false
unfolding most_degree
fails c = sym c.sound_slices.ensures ∙ c.if-not-sound_slices.true

holds : (c : Else-not-sound_slices) → sound most_degree (handed-model c.before.before.before.before) ≡ true
unfolding most_degree
holds c = sym c.sound_slices.ensures ∙ c.if-not-sound_slices.false

pub returns-then-not-sound_slices : goal.returns-then-not-sound_slices
unfolding require_at single_model refusal verdict
returns-then-not-sound_slices c = rw (fails c)

pub returns : goal.returns
unfolding require_at single_model verdict
returns c = rw (holds c)
