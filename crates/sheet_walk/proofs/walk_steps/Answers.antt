-- `walk_steps` tests step after step, and stops at the first fault.
use mathlib.Core.Path.{◌≡◌, refl, sym, ◌∙◌}
use Prim.Native.Nat.{◌-◌}
use native.Mathlib.Omega.{arith}
use borrow.Author.Rules.{rules}
use borrow.Author.Tests.{not-true, not-false}
use Rattle.sheet_walk.specs.StepWalkLaws.{StepsSoFar, steps_first, steps_iteration, steps_bad, steps_end}
use Rattle.sheet_walk.proofs.walk_steps.Goals as goal

pub steps-init : goal.steps-init
steps-init c = record { so_far = steps_first _ _ _ _ _; placed = refl }

pub steps-preserved : goal.steps-preserved
steps-preserved c = record {
  so_far = steps_iteration _ _ _ _ _ _ _ c.steps.invariant.so_far c.steps-test.true _ c.step_at-step.ensures
      (sym c.step_sound.ensures ∙ c.if-not-step_sound.false);
  placed = c.steps.invariant.placed;
}

pub returns-after-steps : goal.returns-after-steps
returns-after-steps c =
    let h = c.steps.invariant in
    let e : c.steps.place ≡ c.steps.k = omega (arith, h.placed, c.steps-test.false, c.steps.auto.k-end) in
    e ∙ steps_end _ _ _ _ _ _ _ h.so_far c.steps-test.false

pub returns-then-not-step_sound : goal.returns-then-not-step_sound
returns-then-not-step_sound c =
    steps_bad _ _ _ _ _ _ _ c.steps.invariant.so_far c.steps-test.true _ c.step_at-step.ensures
    (sym c.step_sound.ensures ∙ c.if-not-step_sound.true)
