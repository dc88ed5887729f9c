-- `crossed` finds twice the cross terms by the spans.
use mathlib.Core.Path.{◌≡◌, sym, ◌∙◌, ap}
use Prim.Native.Nat.{◌+◌, ◌*◌, ◌-◌, ◌^◌, ◌≤◌, ◌<◌}
use native.Mathlib.Omega.{arith}
use borrow.Author.Rules.{rules}
use Rattle.chebyshev.specs.CurveOperations.{carried}
use Rattle.model_types.specs.CurveStruct.{view_curve}
use Rattle.model_curve_multiplication.specs.CollectLaws.{carried_is, carried_small, size_rest, radius_le}
use Rattle.model_curve_multiplication.proofs.crossed.Goals as goal
use Rattle.model_curve_multiplication.proofs.crossed.Goals.{After-span_of-second}

pub overflow_sub-size : goal.overflow_sub-size
overflow_sub-size c = omega (arith, c.span_of-second.ensures, radius_le (view_curve c.args.g))

module _ (c : After-span_of-second) where
  total_is : 2 * (c.span_of-first.result * c.args.g.radius
      + (c.span_of-second.result - c.args.g.radius) * c.args.f.radius)
      ≡ 2 * carried (view_curve c.args.f) (view_curve c.args.g)
  total_is = carried_is (view_curve c.args.f) (view_curve c.args.g) _ _ c.span_of-first.ensures
      (size_rest (view_curve c.args.g) _ c.span_of-second.ensures)

  total_small : 2 * (c.span_of-first.result * c.args.g.radius
      + (c.span_of-second.result - c.args.g.radius) * c.args.f.radius)
      ≤ 2 ^ 61
  total_small = omega (arith, total_is, carried_small _ _ c.requires.t c.requires.t_2)

pub overflow_mul-left : goal.overflow_mul-left
overflow_mul-left c = omega (arith, total_small (goal.at.overflow_mul-left c).After-span_of-second)

pub overflow_mul-right : goal.overflow_mul-right
overflow_mul-right c = omega (arith, total_small (goal.at.overflow_mul-right c).After-span_of-second)

pub overflow_add-both : goal.overflow_add-both
overflow_add-both c = omega (arith, total_small (goal.at.overflow_add-both c).After-span_of-second)

pub overflow_mul-result : goal.overflow_mul-result
overflow_mul-result c = omega (arith, total_small (goal.at.overflow_mul-result c).After-span_of-second)

pub returns : goal.returns
returns c = total_is (goal.at.returns c).After-span_of-second
