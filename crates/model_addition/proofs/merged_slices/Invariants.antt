-- `merged_slices` merges: what is stored, followed by the sum of what is left, is the sum.
use mathlib.Core.Path.{◌≡◌}
use Prim.Native.Nat.{◌+◌, ◌-◌, ◌<◌, ◌≤◌}
use native.Mathlib.Omega.{arith}
use borrow.Author.Rules.{rules}
use lib.IntN.{ℤ, pos}
use lib.ListN.{get_or}
use mir.Facts.{to_z-of_z}
use mir.Syntax.{w64}
use mir.Val.{to_z, of_z}
use Rattle.calculus.specs.Model.{most_terms}
use Rattle.model_types.specs.ModelStruct.{pad}
use Rattle.model_types.specs.ZeroTestLaws.{zero_bits, nonzero_bits}
use Rattle.model_slices.specs.HandedModels.{terms_of}
use Rattle.model_slices.specs.HeldModels.{held, Room, Clear}
use Rattle.model_slices.specs.HeldModelsLaws.{room_still, clear_more}
use Rattle.model_addition.specs.Addition.{SumFrom}
use Rattle.model_addition.specs.MergeLaws.{Merged, Iteration}
use Rattle.model_addition.specs.MergePassLaws.{first_few, second_few, merge_first, merge_fits, merge_iteration}
use Rattle.model_addition.specs.MergePassLaws.{merge_skip, merge_store, merge_many, merge_end}
use Rattle.model_addition.proofs.merged_slices.Given as goal

abbrev pub invariant-loop-i : goal.invariant-loop-i
invariant-loop-i l =
    Room l.stored l.out × ((w : SumFrom l.c l.keys1 l.coefficients1 l.d l.keys2 l.coefficients2)
    → Merged (held w.vars l.c w.radius1 l.keys1 l.coefficients1) (held w.vars l.d w.radius2 l.keys2 l.coefficients2)
    (pad (terms_of l.count l.stored l.out)) l.count l.i l.j)
    × (Clear 0 l.initial.stored l.initial.out → Clear l.count l.stored l.out)

abbrev pub decreases-loop-i : goal.decreases-loop-i
decreases-loop-i l = l.c + l.d - (l.i + l.j)
