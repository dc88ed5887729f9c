-- `rounded_degrees` rounds each coefficient once, and gathers what is left of them.
use mathlib.Core.Path.{◌≡◌, sym, ◌∙◌, ap, ap₂}
use Prim.Native.Nat.{◌+◌, ◌*◌, ◌-◌, ◌^◌, ◌≤◌, ◌<◌}
use native.Mathlib.Omega.{arith}
use borrow.Author.Rules.{rules}
use lib.IntN.{ℤ, nat_abs, pos, ◌-ℤ◌, ◌*ℤ◌}
use lib.ListN.{length, get_or, set}
use mir.Facts.{to_z-of_z}
use mir.Syntax.{w64}
use mir.Val.{to_z, of_z}
use Rattle.numbers.specs.Division.{nearest}
use Rattle.fixed.specs.MachineLaws.{answered}
use Rattle.chebyshev.specs.Coefficients.{Row, size}
use Rattle.chebyshev.specs.CurveOperations.{swept, rounded}
use Rattle.model_types.specs.CurveStruct.{pack_curve}
use Rattle.model_curve_multiplication.specs.CollectLaws.{entry_le}
use Rattle.model_curve_multiplication.specs.RoundLaws.{Rounding, rounding_first, rounding_iteration, rounding_end}
use Rattle.model_curve_multiplication.specs.RoundLaws.{rounding_length}
use Rattle.model_curve_multiplication.specs.RoundLaws.{rounding_small, swept_le}
use Rattle.model_curve_multiplication.proofs.rounded_degrees.Given as goal

abbrev pub invariant-loop-i : goal.invariant-loop-i
invariant-loop-i l = Rounding l.z.places l.d l.e l.out l.total l.i
