-- `add_products` adds each product at its two degrees, from the last one down.
use mathlib.Core.Path.{◌≡◌, sym, ◌∙◌, ap, ap₂}
use Prim.Native.Nat.{ℕ, ◌+◌, ◌*◌, ◌-◌, ◌^◌, ◌<◌}
use native.Mathlib.Omega.{arith}
use borrow.Author.Rules.{rules}
use lib.IntN.{ℤ, nat_abs, pos, ◌+ℤ◌, ◌*ℤ◌}
use lib.ListN.{length, get_or, set}
use mir.Facts.{to_z-of_z}
use mir.Syntax.{w64}
use mir.Val.{to_z, of_z}
use Rattle.fixed.specs.MachineLaws.{answered}
use Rattle.chebyshev.specs.Coefficients.{Row, size, products_of}
use Rattle.model_curve_multiplication.specs.CollectLaws.{Adding, adding_first, adding_iteration, adding_end}
use Rattle.model_curve_multiplication.specs.CollectLaws.{inside, product_room, near_inside, near_room, far_room}
use Rattle.model_curve_multiplication.proofs.add_products.Given as goal

abbrev pub invariant-loop-j : goal.invariant-loop-j
invariant-loop-j l = Adding l.i l.a l.g l.initial.z l.z l.j
