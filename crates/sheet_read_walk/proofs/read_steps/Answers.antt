-- `read_steps` reads step after step, and stops at the first fault.
use mathlib.Core.Path.{◌≡◌, refl, sym, ◌∙◌, ap}
use Prim.Native.Nat.{◌-◌}
use native.Mathlib.Omega.{arith}
use borrow.Author.Rules.{rules}
use borrow.Author.Tests.{not-true, not-false}
use Rattle.calculus.specs.Book.{most_steps}
use Rattle.sheet_walk.specs.StepWalkLaws.{steps_iteration, steps_bad, steps_end, steps_most}
use Rattle.sheet_read_walk.specs.KeptLaws.{StepsKept, steps_none, steps_more, steps_answer}
use Rattle.sheet_read_walk.proofs.read_steps.Goals as goal

pub steps-init : goal.steps-init
unfolding most_steps
steps-init c = record { kept = steps_none _ _ _ _ _; placed = refl }

pub offset_bounds-steps-k : goal.offset_bounds-steps-k
unfolding most_steps
offset_bounds-steps-k c = search rules

pub bounds-steps-k : goal.bounds-steps-k
unfolding most_steps
bounds-steps-k c = search rules

pub steps-preserved : goal.steps-preserved
steps-preserved c =
    let h = c.steps.invariant.kept in
    let k = c.steps-test.true in
    let e = c.step_at-step.ensures in
    record {
      kept = steps_more _ _ _ _ _ _ _ _ h k c.requires.0 _ e
          (steps_iteration _ _ _ _ _ _ _ h.so_far k _ e (sym c.step_sound.ensures ∙ c.if-not-step_sound.false));
      placed = c.steps.invariant.placed;
    }

pub returns-after-steps : goal.returns-after-steps
returns-after-steps c =
    let h = c.steps.invariant.kept in
    let e : c.steps.place ≡ c.steps.k =
    omega (arith, c.steps.invariant.placed, c.steps-test.false, c.steps.auto.k-end) in
    ap (λ k. record { place = k; steps = c.steps.steps }) e
    ∙ steps_answer _ _ _ _ _ _ _ _ h (steps_end _ _ _ _ _ _ _ h.so_far c.steps-test.false)

pub returns-then-not-step_sound : goal.returns-then-not-step_sound
returns-then-not-step_sound c =
    let h = c.steps.invariant.kept in
    steps_answer _ _ _ _ _ _ _ _ h
    (steps_bad _ _ _ _ _ _ _ h.so_far c.steps-test.true _ c.step_at-step.ensures
    (sym c.step_sound.ensures ∙ c.if-not-step_sound.true))
