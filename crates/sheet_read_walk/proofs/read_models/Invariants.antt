-- `read_models` reads and tests model after model, and stops at the first fault.
use mathlib.Core.Path.{◌≡◌, refl}
use mathlib.Core.List.{[], ◌∷◌, ◌++◌}
use Prim.Native.Nat.{◌+◌, ◌-◌, ◌≤◌}
use native.Mathlib.Omega.{arith}
use borrow.Author.Rules.{rules}
use lib.ListN.{length, drop}
use mir.Syntax.{w64}
use mir.Val.{Fits}
use Rattle.calculus.specs.Model.{most_terms}
use Rattle.calculus.specs.Book.{most_models}
use Rattle.format.specs.Format.{read_model}
use Rattle.sheet_walk.specs.ModelWalkLaws.{ModelsSoFar, models_iteration, models_fault, models_end, head_inside}
use Rattle.sheet_walk.specs.ModelWalkLaws.{struct_read}
use Rattle.sheet_read_walk.specs.KeptLaws.{ModelsKept, models_none, models_more, models_answer}
use Rattle.sheet_read_walk.proofs.read_models.Given as goal

abbrev pub invariant-models : goal.invariant-models
invariant-models l = record {
  kept : ModelsKept l.s l.n l.d l.count l.models l.at l.k;
  placed : l.place ≡ l.count;
}
