-- `put_constant` goes down the powers of a variable: what is left at each iteration leads to the answer.
use mathlib.Core.Path.{◌≡◌, sym, subst}
use mathlib.Core.List.{List}
use Prim.Native.Nat.{ℕ, ◌-◌, ◌<◌}
use native.Mathlib.Omega.{arith}
use borrow.Author.Rules.{rules}
use lib.IntN.{ℤ}
use mir.Facts.{to_z-of_z}
use mir.Syntax.{w64}
use mir.Val.{to_z, of_z}
use Rattle.calculus.specs.Operations.{part}
use Rattle.model_types.specs.ModelStruct.{view, pack}
use Rattle.model_slices.specs.HeldModels.{held, Room}
use Rattle.model_powers.specs.Powers.{exponents}
use Rattle.model_evaluation.specs.Evaluate.{PutOf, PutIn}
use Rattle.model_evaluation.specs.PutCoordinateLaws as P
use Rattle.model_evaluation.specs.SliceIterationLaws.{put_keys, put_part, put_first, put_few, put_iterating}
use Rattle.model_evaluation.specs.SliceIterationLaws.{put_stops}
use Rattle.model_evaluation.specs.SliceIterationLaws.{put_goes_on, put_packed, put_end}
use Rattle.model_evaluation.proofs.put_constant.Given as goal

abbrev pub invariant-loop-k : goal.invariant-loop-k
invariant-loop-k l =
    Room l.stored l.out × Room l.others l.added × Room l.spare l.products
    × ((w : PutOf l.i l.x l.count l.radius l.keys l.coefficients)
    → P.Left l.i l.x (held w.vars l.count l.radius l.keys l.coefficients) l.k (held w.vars l.c l.e l.stored l.out))
    × (l.k < exponents)
