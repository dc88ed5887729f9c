-- `at_point` makes the tests of the model and of the coordinates.
use mathlib.Core.Path.{◌≡◌, sym, ◌∙◌}
use mathlib.Core.Bool.{true, false}
use Prim.Native.Nat.{◌≤◌}
use borrow.Author.Rules.{rules}
use borrow.Author.Tests.{not-true, not-false}
use lib.ListN.{take, drop}
use Rattle.calculus.specs.Key.{key_width}
use Rattle.calculus.specs.Model.{most_degree, sound}
use Rattle.calculus.specs.Refusal.{require_at}
use Rattle.calculus.specs.Tests.{all_zero, all_in_unit}
use Rattle.model_types.specs.ModelStruct.{view, refusal, verdict}
use Rattle.model_types.specs.ModelStructLaws.{limits}
use Rattle.model_call_tests.specs.Admission.{at_point}
use Rattle.model_call_tests.specs.CallStructLaws.{vars_view}
use Rattle.model_call_tests.proofs.at_point.Goals as goal
use Rattle.model_call_tests.proofs.at_point.Goals.{Else-not-sound, Else-not-unused_zero, Else-not-used_within, Then-not-sound, Then-not-unused_zero, Then-not-used_within}

fails : (c : Then-not-sound) → sound most_degree (view c.args.m) ≡ false
unfolding most_degree
fails c = sym c.sound.ensures ∙ c.if-not-sound.true

holds : (c : Else-not-sound) → sound most_degree (view c.args.m) ≡ true
unfolding most_degree
holds c = sym c.sound.ensures ∙ c.if-not-sound.false

width : (c : Else-not-sound) → c.args.m.n ≤ key_width
width c = (limits most_degree c.args.m (rw (holds c) tt)).width

unused_fail : (c : Then-not-unused_zero)
    → all_zero (drop c.args.m.n c.args.xs) ≡ false
unused_fail c = sym c.unused_zero.ensures ∙ c.if-not-unused_zero.true

unused_hold : (c : Else-not-unused_zero)
    → all_zero (drop c.args.m.n c.args.xs) ≡ true
unused_hold c = sym c.unused_zero.ensures ∙ c.if-not-unused_zero.false

used_fail : (c : Then-not-used_within)
    → all_in_unit (take c.args.m.n c.args.xs) ≡ false
used_fail c = sym c.used_within.ensures ∙ c.if-not-used_within.true

used_hold : (c : Else-not-used_within)
    → all_in_unit (take c.args.m.n c.args.xs) ≡ true
used_hold c = sym c.used_within.ensures ∙ c.if-not-used_within.false

pub returns-then-not-sound : goal.returns-then-not-sound
unfolding require_at at_point refusal verdict
returns-then-not-sound c = rw (fails c)

pub unused_zero-requires : goal.unused_zero-requires
unused_zero-requires c = width c

pub returns-then-not-unused_zero : goal.returns-then-not-unused_zero
unfolding require_at at_point refusal verdict
returns-then-not-unused_zero c = rw (
  holds (goal.at.returns-then-not-unused_zero c).Else-not-sound,
  vars_view c.args.m,
  unused_fail c,
)

pub used_within-requires : goal.used_within-requires
used_within-requires c = width (goal.at.used_within-requires c).Else-not-sound

pub returns-then-not-used_within : goal.returns-then-not-used_within
unfolding require_at at_point refusal verdict
returns-then-not-used_within c =
    rw (
      holds (goal.at.returns-then-not-used_within c).Else-not-sound,
      vars_view c.args.m,
      unused_hold (goal.at.returns-then-not-used_within c).Else-not-unused_zero,
      used_fail c,
    )

pub returns : goal.returns
unfolding require_at at_point verdict
returns c =
    rw (
      holds (goal.at.returns c).Else-not-sound,
      vars_view c.args.m,
      unused_hold (goal.at.returns c).Else-not-unused_zero,
      used_hold c,
    )
