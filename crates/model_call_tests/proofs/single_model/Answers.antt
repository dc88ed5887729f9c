-- `single_model` is the test of the model.
use mathlib.Core.Path.{◌≡◌, sym, ◌∙◌}
use mathlib.Core.Bool.{true, false}
use borrow.Author.Rules.{rules}
use borrow.Author.Tests.{not-true, not-false}
use Rattle.calculus.specs.Model.{most_degree, sound}
use Rattle.calculus.specs.Refusal.{require_at}
use Rattle.model_types.specs.ModelStruct.{view, refusal, verdict}
use Rattle.model_call_tests.specs.Admission.{single_model}
use Rattle.model_call_tests.proofs.single_model.Goals as goal
use Rattle.model_call_tests.proofs.single_model.Goals.{Else-not-sound, Then-not-sound}

fails : (c : Then-not-sound) → sound most_degree (view c.args.m) ≡ false
unfolding most_degree
fails c = sym c.sound.ensures ∙ c.if-not-sound.true

holds : (c : Else-not-sound) → sound most_degree (view c.args.m) ≡ true
unfolding most_degree
holds c = sym c.sound.ensures ∙ c.if-not-sound.false

pub returns-then-not-sound : goal.returns-then-not-sound
unfolding require_at single_model refusal verdict
returns-then-not-sound c = rw (fails c)

pub returns : goal.returns
unfolding require_at single_model verdict
returns c = rw (holds c)
