-- `walk_models` tests model after model, and stops at the first fault.
use mathlib.Core.Path.{◌≡◌, refl, sym, ◌∙◌}
use mathlib.Core.List.{[], ◌∷◌, ◌++◌}
use Prim.Native.Nat.{◌+◌, ◌-◌}
use native.Mathlib.Omega.{arith}
use borrow.Author.Rules.{rules}
use lib.ListN.{length, drop}
use mir.Syntax.{w64}
use mir.Val.{Fits}
use Rattle.calculus.specs.Model.{most_terms}
use Rattle.format.specs.Format.{read_model}
use Rattle.sheet_walk.specs.ModelWalkLaws.{ModelsPassed, models_answer, models_first, models_iteration}
use Rattle.sheet_walk.specs.ModelWalkLaws.{ModelsSoFar, models_fault, models_end}
use Rattle.sheet_walk.proofs.walk_models.Given as goal

abbrev pub invariant-models : goal.invariant-models
invariant-models l = record {
  passed : ModelsPassed l.s l.n l.d l.count l.keys l.coefficients l.at l.k;
  placed : l.place ≡ l.count;
}
