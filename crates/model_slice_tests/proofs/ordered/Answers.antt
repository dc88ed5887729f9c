-- `ordered` makes the test of the order, then those of two models.
use mathlib.Core.Path.{◌≡◌, sym, ◌∙◌}
use mathlib.Core.Bool.{true, false}
use borrow.Author.Rules.{rules}
use borrow.Author.Tests.{not-true, not-false}
use Rattle.calculus.specs.Refusal.{require_at}
use Rattle.calculus.specs.Tests.{order_sound}
use Rattle.model_types.specs.ModelStruct.{refusal, verdict}
use Rattle.model_call_tests.specs.Admission.{two_models, ordered}
use Rattle.model_slice_tests.proofs.ordered.Goals as goal
use Rattle.model_slice_tests.proofs.ordered.Goals.{Else-not-order_sound}

pub returns-then-not-order_sound : goal.returns-then-not-order_sound
unfolding require_at ordered refusal verdict
returns-then-not-order_sound c = rw (sym c.order_sound.ensures ∙ c.if-not-order_sound.true)

order_holds : (c : Else-not-order_sound) → order_sound c.args.d ≡ true
order_holds c = sym c.order_sound.ensures ∙ c.if-not-order_sound.false

pub returns : goal.returns
unfolding require_at two_models ordered
returns c = rw (c.two_models.ensures, order_holds (goal.at.returns c).Else-not-order_sound)
