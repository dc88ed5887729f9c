-- `walk_steps` tests step after step, and stops at the first fault.
use mathlib.Core.Path.{◌≡◌, sym, ◌∙◌}
use Prim.Native.Nat.{◌-◌}
use borrow.Author.Rules.{rules}
use borrow.Author.Tests.{not-true, not-false}
use Rattle.sheet_walk.specs.StepWalkLaws.{StepsSoFar, steps_first, steps_iteration, steps_bad, steps_end}
use Rattle.sheet_walk.proofs.walk_steps.Given as goal

abbrev pub invariant-steps : goal.invariant-steps
invariant-steps l = record {
  so_far : StepsSoFar l.s l.offset l.n l.models l.count l.at l.k;
  placed : l.place ≡ l.count;
}
