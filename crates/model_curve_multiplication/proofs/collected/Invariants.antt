-- `collected` adds the products of each degree of f, from the last one down.
use mathlib.Core.Path.{◌≡◌, sym, ◌∙◌, ap}
use Prim.Native.Nat.{ℕ, ◌+◌, ◌*◌, ◌-◌, ◌^◌, ◌<◌}
use native.Mathlib.Omega.{arith}
use borrow.Author.Rules.{rules}
use lib.IntN.{ℤ, nat_abs, pos}
use lib.ListN.{length, get_or}
use mir.Facts.{to_z-of_z}
use mir.Syntax.{w64}
use mir.Val.{to_z, of_z}
use Rattle.chebyshev.specs.Coefficients.{Row, size, products_of}
use Rattle.chebyshev.specs.CurveOperations.{products}
use Rattle.model_curve_multiplication.specs.CollectLaws.{Collecting, collecting_first, collecting_iteration}
use Rattle.model_curve_multiplication.specs.CollectLaws.{collecting_end, collecting_room, sizes_product}
use Rattle.model_curve_multiplication.proofs.collected.Given as goal

abbrev pub invariant-loop-i : goal.invariant-loop-i
invariant-loop-i l = Collecting l.f.coefficients l.g.coefficients l.z l.i
