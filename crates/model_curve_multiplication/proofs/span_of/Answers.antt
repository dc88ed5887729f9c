-- `span_of` adds the first size and the variation.
use mathlib.Core.Path.{◌≡◌, sym, ◌∙◌, ap}
use Prim.Native.Nat.{◌+◌, ◌^◌, ◌<◌}
use native.Mathlib.Omega.{arith}
use borrow.Author.Rules.{rules}
use lib.IntN.{nat_abs, pos}
use lib.ListN.{length, get_or}
use mir.Facts.{to_z-of_z}
use mir.Syntax.{w64}
use mir.Val.{to_z, of_z}
use Rattle.chebyshev.specs.Curve.{span}
use Rattle.model_types.specs.CurveStruct.{view_curve}
use Rattle.model_curve_multiplication.specs.CollectLaws.{span_parts, span_small}
use Rattle.model_curve_multiplication.proofs.span_of.Goals as goal
use Rattle.model_curve_multiplication.proofs.span_of.Goals.{After-magnitude-arg-1, After-variation_of-others, Start}

whole : (c : Start) → length c.args.c.coefficients ≡ 16
whole c = search rules

read_back : (c : After-magnitude-arg-1)
    → let z = get_or c.args.c.coefficients 0 (pos 0) in to_z w64 (of_z w64 z) ≡ z
read_back c = to_z-of_z {w = w64} (record { sfits = c.magnitude-arg-1.given })

total_is : (c : After-variation_of-others)
    → c.magnitude-first.result + c.variation_of-others.result ≡ span (view_curve c.args.c)
total_is c =
    omega (
      arith,
      c.magnitude-first.ensures ∙ ap nat_abs (read_back c.before.before),
      c.variation_of-others.ensures,
      span_parts (view_curve c.args.c) (whole c.before.before.before),
    )

pub overflow_add-result : goal.overflow_add-result
overflow_add-result c = omega (arith, total_is c, span_small _ c.requires)

pub returns : goal.returns
returns c = total_is c
