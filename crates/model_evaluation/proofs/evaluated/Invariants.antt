-- `evaluated` puts in one coordinate after the other: what is left at each iteration leads to the answer.
use mathlib.Core.Path.{◌≡◌, refl, sym, subst}
use mathlib.Core.List.{List}
use Prim.Native.Nat.{ℕ, ◌+◌, ◌-◌, ◌≤◌}
use native.Mathlib.Omega.{arith}
use borrow.Author.Rules.{rules}
use lib.IntN.{ℤ, pos}
use lib.ListN.{length, get_or, replicate}
use mir.Facts.{to_z-of_z}
use mir.Syntax.{w64}
use mir.Val.{to_z, of_z}
use Rattle.calculus.specs.Key.{key_width}
use Rattle.calculus.specs.Model.{most_degree, most_terms}
use Rattle.calculus.specs.Refusal.{at_place}
use Rattle.calculus.specs.Operations.{constant, substitute}
use Rattle.std.specs.Prelude.{Ok}
use Rattle.model_types.specs.ModelStruct.{view, answer}
use Rattle.model_types.specs.ModelStructLaws.{limits}
use Rattle.model_slices.specs.HeldModels.{held, Room}
use Rattle.model_limits.specs.Limits.{LeftIn}
use Rattle.model_evaluation.specs.Evaluate.{Evaluation, PutOf, PutIn}
use Rattle.model_evaluation.specs.EvaluationLaws.{Remaining}
use Rattle.model_evaluation.specs.SliceEvaluationLaws.{held_evaluation, held_end}
use Rattle.model_evaluation.specs.SliceEvaluationLaws.{remaining_start, left_few, put_of, iteration_refused}
use Rattle.model_evaluation.specs.SliceEvaluationLaws.{iteration_accepted}
use Rattle.model_evaluation.specs.SliceEvaluationLaws.{end_sound, range_end}
use Rattle.model_evaluation.proofs.evaluated.Given as goal

abbrev pub invariant-loop-i : goal.invariant-loop-i
invariant-loop-i l =
    Remaining (held l.n l.initial.count l.initial.radius l.initial.keys l.initial.coefficients) l.xs l.i
    (held l.n l.count l.radius l.keys l.coefficients)
    × Room l.keys l.coefficients × Room l.stored l.out × Room l.others l.added × Room l.spare l.products

abbrev pub decreases-loop-i : goal.decreases-loop-i
decreases-loop-i l = l.n + 1 - l.i
