-- `read_steps` reads step after step, and stops at the first fault.
use mathlib.Core.Path.{◌≡◌, sym, ◌∙◌}
use Prim.Native.Nat.{◌-◌}
use borrow.Author.Rules.{rules}
use borrow.Author.Tests.{not-true, not-false}
use Rattle.calculus.specs.Book.{most_steps}
use Rattle.sheet_walk.specs.StepWalkLaws.{steps_iteration, steps_bad, steps_end, steps_most}
use Rattle.sheet_read_walk.specs.KeptLaws.{StepsKept, steps_none, steps_more, steps_answer}
use Rattle.sheet_read_walk.proofs.read_steps.Given as goal

abbrev pub invariant-steps : goal.invariant-steps
invariant-steps l = record {
  kept : StepsKept l.s l.offset l.n l.models l.count l.steps l.at l.k;
  placed : l.place ≡ l.count;
}
