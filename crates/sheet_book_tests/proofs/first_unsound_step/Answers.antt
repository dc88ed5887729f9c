-- `first_unsound_step` walks forward: steps before number i pass, and the loop is left at the first that does not.
use mathlib.Core.Path.{◌≡◌, refl, ◌∙◌}
use Prim.Native.Nat.{◌-◌, ◌≤◌, ◌<◌}
use native.Mathlib.Omega.{arith}
use borrow.Author.Rules.{rules}
use borrow.Author.Tests.{not-true, not-false}
use lib.ListN.{length, length-map}
use Rattle.calculus.specs.Book.{most_steps}
use Rattle.sheet_book.specs.FailingLaws.{walked_first}
use Rattle.sheet_book_tests.specs.WalkLaws.{StepsWalked, steps_iteration, steps_bad, steps_end}
use Rattle.sheet_book_tests.proofs.first_unsound_step.Goals as goal
use Rattle.sheet_book_tests.proofs.first_unsound_step.Goals.{In-steps, Start}

whole : (c : Start) → length c.args.b.steps ≡ 64
whole c = c.well_formed.0.1.1.1.1.1.1.1.0.1.0.1

long : (c : Start) → c.args.b.step_count ≤ length c.args.b.steps
unfolding most_steps
long c = omega (arith, whole c, c.requires)

-- in the loop the number is that of a place
inside : (c : In-steps) → c.steps.i < 64
unfolding most_steps
inside c = omega (arith, c.steps-test.true, c.requires)

pub steps-init : goal.steps-init
steps-init c = record { walked = walked_first _ _; placed = refl }

pub offset_bounds-b-i : goal.offset_bounds-b-i
offset_bounds-b-i c = omega (arith, inside c)

pub bounds-b-i : goal.bounds-b-i
bounds-b-i c = inside c

pub steps-preserved : goal.steps-preserved
steps-preserved c = record {
  walked = steps_iteration c.args.b c.steps.i (long (goal.at.steps-preserved c).Start) c.steps.invariant.walked
      c.steps-test.true _ _ c.step_sound.ensures c.if-not-step_sound.false;
  placed = c.steps.invariant.placed;
}

pub returns-after-steps : goal.returns-after-steps
returns-after-steps c =
    let h = c.steps.invariant in
    let e : c.steps.place ≡ c.steps.i = omega (arith, h.placed, c.steps-test.false, c.steps.auto.i-end) in
    e ∙ steps_end _ _ (long (goal.at.returns-after-steps c).Start) h.walked c.steps-test.false

pub returns-then-not-step_sound : goal.returns-then-not-step_sound
returns-then-not-step_sound c =
    steps_bad c.args.b c.steps.i (long (goal.at.returns-then-not-step_sound c).Start) c.steps.invariant.walked
    c.steps-test.true _ _ c.step_sound.ensures (c.if-not-step_sound.true)
