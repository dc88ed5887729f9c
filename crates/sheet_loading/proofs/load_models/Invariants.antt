-- `load_models` reads model after model to its place, and stops at the first fault.
use mathlib.Core.Path.{◌≡◌, refl, sym, ◌∙◌}
use mathlib.Core.List.{List}
use Prim.Native.Nat.{ℕ, ◌+◌, ◌*◌, ◌-◌, ◌≤◌, ◌<◌}
use native.Mathlib.Omega.{arith}
use borrow.Author.Rules.{rules}
use lib.ListN.{length, drop, take, length-take, length-drop, length-set}
use mir.Syntax.{w64}
use mir.Val.{Fits}
use Rattle.calculus.specs.Model.{most_terms}
use Rattle.sheet_read_walk.specs.sheet_walk.ModelWalkLaws.{models_iteration, models_fault, models_end, head_inside}
use Rattle.sheet_results.specs.Results.{Results, results}
use Rattle.sheet_loading.specs.LoadLaws.{Loading, load_first, load_iteration, load_end, load_fault}
use Rattle.sheet_loading.specs.LoadLaws.{keys_inside, coefficients_inside, count_inside, radius_inside}
use Rattle.sheet_loading.proofs.load_models.Given as goal

abbrev pub invariant-models : goal.invariant-models
invariant-models l = record {
  loading : Loading l.s l.n l.d l.count
      (results l.initial.keys l.initial.coefficients l.initial.counts l.initial.radii)
      (results l.keys l.coefficients l.counts l.radii) l.at l.k;
  placed : l.place ≡ l.count;
}
