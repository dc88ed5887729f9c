-- `four_models` makes the tests of the four models in order, then of their variables.
use mathlib.Core.Path.{◌≡◌, sym, ◌∙◌, ap₂}
use mathlib.Core.Bool.{Bool, true, false, ◌&&◌}
use borrow.Author.Rules.{rules}
use borrow.Author.Tests.{not-true, not-false}
use lib.Dec.{eqb}
use Rattle.calculus.specs.Model.{sound}
use Rattle.calculus.specs.Refusal.{variables_differ, done, require_at}
use Rattle.calculus.specs.Calls.{require_four}
use Rattle.model_types.specs.declared.Model.{Model}
use Rattle.model_types.specs.ModelStruct.{view, refusal, verdict}
use Rattle.model_call_tests.specs.Admission.{four_models}
use Rattle.model_call_tests.specs.CallStructLaws.{same_vars, other_vars}
use Rattle.model_call_tests.proofs.four_models.Goals as goal
use Rattle.model_call_tests.proofs.four_models.Goals.{Else-f-h, Else-not-sound, Else-not-sound-2, Else-not-sound-3, Else-not-sound-4, Then-not-sound, Then-not-sound-2, Then-not-sound-3, Then-not-sound-4}

first_fails : (c : Then-not-sound) → sound c.args.d (view c.args.f) ≡ false
first_fails c = sym c.sound.ensures ∙ c.if-not-sound.true

first_holds : (c : Else-not-sound) → sound c.args.d (view c.args.f) ≡ true
first_holds c = sym c.sound.ensures ∙ c.if-not-sound.false

second_fails : (c : Then-not-sound-2) → sound c.args.d (view c.args.g) ≡ false
second_fails c = sym c.sound-2.ensures ∙ c.if-not-sound-2.true

second_holds : (c : Else-not-sound-2) → sound c.args.d (view c.args.g) ≡ true
second_holds c = sym c.sound-2.ensures ∙ c.if-not-sound-2.false

third_fails : (c : Then-not-sound-3) → sound c.args.d (view c.args.h) ≡ false
third_fails c = sym c.sound-3.ensures ∙ c.if-not-sound-3.true

third_holds : (c : Else-not-sound-3) → sound c.args.d (view c.args.h) ≡ true
third_holds c = sym c.sound-3.ensures ∙ c.if-not-sound-3.false

fourth_fails : (c : Then-not-sound-4) → sound c.args.d (view c.args.w) ≡ false
fourth_fails c = sym c.sound-4.ensures ∙ c.if-not-sound-4.true

fourth_holds : (c : Else-not-sound-4) → sound c.args.d (view c.args.w) ≡ true
fourth_holds c = sym c.sound-4.ensures ∙ c.if-not-sound-4.false

pub returns-then-not-sound : goal.returns-then-not-sound
unfolding require_at require_four four_models refusal verdict
returns-then-not-sound c = rw (first_fails c)

pub returns-then-not-sound-2 : goal.returns-then-not-sound-2
unfolding require_at require_four four_models refusal verdict
returns-then-not-sound-2 c = rw (first_holds (goal.at.returns-then-not-sound-2 c).Else-not-sound, second_fails c)

pub returns-then-not-sound-3 : goal.returns-then-not-sound-3
unfolding require_at require_four four_models refusal verdict
returns-then-not-sound-3 c =
    rw (
      first_holds (goal.at.returns-then-not-sound-3 c).Else-not-sound,
      second_holds (goal.at.returns-then-not-sound-3 c).Else-not-sound-2,
      third_fails c,
    )

pub returns-then-not-sound-4 : goal.returns-then-not-sound-4
unfolding require_at require_four four_models refusal verdict
returns-then-not-sound-4 c =
    rw (
      first_holds (goal.at.returns-then-not-sound-4 c).Else-not-sound,
      second_holds (goal.at.returns-then-not-sound-4 c).Else-not-sound-2,
      third_holds (goal.at.returns-then-not-sound-4 c).Else-not-sound-3,
      fourth_fails c,
    )

-- all are sound: their variables decide
module _ (c : Else-not-sound-4) where
  abbrev same : Model → Bool
  same m = eqb (view c.args.f).vars (view m).vars

  decided : four_models c.args.d (view c.args.f) (view c.args.g) (view c.args.h)
      (view c.args.w)
      ≡ require_at 0 (same c.args.g && same c.args.h && same c.args.w) variables_differ
      (done tt)
  unfolding require_at require_four four_models
  decided =
      rw (
        first_holds c.before.before.before.before.before.before,
        second_holds c.before.before.before.before,
        third_holds c.before.before,
        fourth_holds c,
      )

pub returns-then-f-g : goal.returns-then-f-g
unfolding require_at refusal verdict
returns-then-f-g c =
    let a = c.args in
    rw (decided (goal.at.returns-then-f-g c).Else-not-sound-4, other_vars a.f a.g c.if-f-g.true)

pub returns-then-f-h : goal.returns-then-f-h
unfolding require_at refusal verdict
returns-then-f-h c =
    let a = c.args in
    rw (
      decided (goal.at.returns-then-f-h c).Else-not-sound-4,
      same_vars a.f a.g c.if-f-g.false,
      other_vars a.f a.h c.if-f-h.true,
    )

-- the first three agree: the last decides
module _ (c : Else-f-h) where
  last_decides : four_models c.args.d (view c.args.f) (view c.args.g)
      (view c.args.h) (view c.args.w)
      ≡ require_at 0 (same c.before.before.before.before.before.before c.args.w) variables_differ (done tt)
  last_decides =
      let a = c.args in
      decided c.before.before.before.before.before.before
      ∙ ap₂ (λ b k. require_at 0 (b && k && same c.before.before.before.before.before.before a.w) variables_differ
      (done tt))
      (same_vars a.f a.g c.if-f-g.false) (same_vars a.f a.h c.if-f-h.false)

pub returns-then-f-w : goal.returns-then-f-w
unfolding require_at refusal verdict
returns-then-f-w c =
    let a = c.args in
    rw (last_decides (goal.at.returns-then-f-w c).Else-f-h, other_vars a.f a.w c.if-f-w.true)

pub returns : goal.returns
unfolding require_at verdict
returns c =
    let a = c.args in
    rw (last_decides (goal.at.returns c).Else-f-h, same_vars a.f a.w c.if-f-w.false)
