-- `variation_of` adds up the sizes, from the last place down to the first.
use mathlib.Core.Path.{◌≡◌, sym, ◌∙◌, ap}
use Prim.Native.Nat.{◌+◌, ◌-◌}
use native.Mathlib.Omega.{arith}
use borrow.Author.Rules.{rules}
use lib.IntN.{nat_abs, pos}
use lib.ListN.{length, get_or, drop}
use mir.Facts.{to_z-of_z}
use mir.Syntax.{w64}
use mir.Val.{to_z, of_z}
use Rattle.chebyshev.specs.CurveOperations.{variation}
use Rattle.model_types.specs.CurveStruct.{view_curve}
use Rattle.model_curve_range.specs.CurveRangeLaws.{Gathered, gathered_first, gathered_iteration, gathered_room}
use Rattle.model_curve_range.specs.CurveRangeLaws.{gathered_end, sizes_small, drop_le}
use Rattle.model_curve_range.proofs.variation_of.Given as goal

abbrev pub invariant-loop-i : goal.invariant-loop-i
invariant-loop-i l = Gathered l.c.coefficients l.total l.i
