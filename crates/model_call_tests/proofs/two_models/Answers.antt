-- `two_models` makes the tests of the first model, of the second, and of their variables.
use mathlib.Core.Path.{◌≡◌, sym, ◌∙◌}
use mathlib.Core.Bool.{true, false}
use borrow.Author.Rules.{rules}
use borrow.Author.Tests.{not-true, not-false}
use Rattle.calculus.specs.Model.{sound}
use Rattle.calculus.specs.Refusal.{require_at}
use Rattle.calculus.specs.Calls.{require_two}
use Rattle.model_types.specs.ModelStruct.{view, refusal, verdict}
use Rattle.model_call_tests.specs.Admission.{two_models}
use Rattle.model_call_tests.specs.CallStructLaws.{same_vars, other_vars}
use Rattle.model_call_tests.proofs.two_models.Goals as goal
use Rattle.model_call_tests.proofs.two_models.Goals.{Else-not-sound, Else-not-sound-2, Then-not-sound, Then-not-sound-2}

first_fails : (c : Then-not-sound) → sound c.args.d (view c.args.a) ≡ false
first_fails c = sym c.sound.ensures ∙ c.if-not-sound.true

first_holds : (c : Else-not-sound) → sound c.args.d (view c.args.a) ≡ true
first_holds c = sym c.sound.ensures ∙ c.if-not-sound.false

second_fails : (c : Then-not-sound-2) → sound c.args.d (view c.args.b) ≡ false
second_fails c = sym c.sound-2.ensures ∙ c.if-not-sound-2.true

second_holds : (c : Else-not-sound-2) → sound c.args.d (view c.args.b) ≡ true
second_holds c = sym c.sound-2.ensures ∙ c.if-not-sound-2.false

pub returns-then-not-sound : goal.returns-then-not-sound
unfolding require_at require_two two_models refusal verdict
returns-then-not-sound c = rw (first_fails c)

pub returns-then-not-sound-2 : goal.returns-then-not-sound-2
unfolding require_at require_two two_models refusal verdict
returns-then-not-sound-2 c = rw (first_holds (goal.at.returns-then-not-sound-2 c).Else-not-sound, second_fails c)

pub returns-then-a-b : goal.returns-then-a-b
unfolding require_at require_two two_models refusal verdict
returns-then-a-b c =
    rw (
      first_holds (goal.at.returns-then-a-b c).Else-not-sound,
      second_holds (goal.at.returns-then-a-b c).Else-not-sound-2,
      other_vars c.args.a c.args.b c.if-a-b.true,
    )

pub returns : goal.returns
unfolding require_at require_two two_models verdict
returns c =
    rw (
      first_holds (goal.at.returns c).Else-not-sound,
      second_holds (goal.at.returns c).Else-not-sound-2,
      same_vars c.args.a c.args.b c.if-a-b.false,
    )
