-- `variation_of` adds up the sizes, from the last place down to the first.
use mathlib.Core.Path.{◌≡◌, sym, ◌∙◌, ap}
use Prim.Native.Nat.{◌+◌, ◌-◌}
use native.Mathlib.Omega.{arith}
use borrow.Author.Rules.{rules}
use lib.IntN.{nat_abs, pos}
use lib.ListN.{length, get_or, drop}
use mir.Facts.{to_z-of_z}
use mir.Syntax.{w64}
use mir.Val.{to_z, of_z}
use Rattle.chebyshev.specs.CurveOperations.{variation}
use Rattle.model_types.specs.CurveStruct.{view_curve}
use Rattle.model_curve_range.specs.CurveRangeLaws.{Gathered, gathered_first, gathered_iteration, gathered_room}
use Rattle.model_curve_range.specs.CurveRangeLaws.{gathered_end, sizes_small, drop_le}
use Rattle.model_curve_range.proofs.variation_of.Goals as goal
use Rattle.model_curve_range.proofs.variation_of.Goals.{After-loop-i, After-magnitude-arg-1, After-magnitude-total, Start}

whole : (c : Start) → length c.args.c.coefficients ≡ 16
whole c = search rules

pub loop-i-init : goal.loop-i-init
loop-i-init c = gathered_first _ (whole c)

pub offset_bounds-c-i : goal.offset_bounds-c-i
offset_bounds-c-i c = omega (arith, c.loop-i.invariant.within)

pub bounds-c-i : goal.bounds-c-i
bounds-c-i c = omega (arith, c.loop-i.invariant.within, c.loop-i-test.true)

-- the coefficient at hand, and its size
read_back : (c : After-magnitude-arg-1)
    → let z = get_or c.args.c.coefficients (c.loop-i.i - 1) (pos 0) in to_z w64 (of_z w64 z) ≡ z
read_back c = to_z-of_z {w = w64} (record { sfits = c.magnitude-arg-1.given })

size_is : (c : After-magnitude-total)
    → c.magnitude-total.result ≡ nat_abs (get_or c.args.c.coefficients (c.loop-i.i - 1) (pos 0))
size_is c = c.magnitude-total.ensures ∙ ap nat_abs (read_back c.before)

pub overflow_add-total : goal.overflow_add-total
overflow_add-total c =
    omega (
      arith,
      gathered_room _ (whole (goal.at.overflow_add-total c).Start) _ _ _ c.loop-i.invariant c.loop-i-test.true
          (size_is c),
      sizes_small _ c.requires,
    )

pub loop-i-preserved : goal.loop-i-preserved
loop-i-preserved c =
    gathered_iteration _ (whole (goal.at.loop-i-preserved c).Start) _ _ _ c.loop-i.invariant c.loop-i-test.true
    (size_is c)

total_is : (c : After-loop-i)
    → c.loop-i.total + c.args.c.radius
    ≡ variation (view_curve c.args.c)
unfolding variation
total_is c =
    ap (λ n. n + c.args.c.radius)
    (gathered_end _ (whole c.before.before) _ _ c.loop-i.invariant c.loop-i-test.false)

pub overflow_add-result : goal.overflow_add-result
unfolding variation
overflow_add-result c =
    omega (arith, total_is c, drop_le c.args.c.coefficients 1, sizes_small _ c.requires)

pub returns : goal.returns
returns c = total_is c
