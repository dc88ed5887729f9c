-- `rest` takes the quotient times the denominator from the parts.
use mathlib.Core.Path.{◌≡◌, ◌∙◌, ap, ap₂}
use Prim.Native.Nat.{◌*◌, ◌≤◌}
use native.Mathlib.Omega.{arith}
use lib.IntN.{pos, nat_abs, ◌-ℤ◌, ◌*ℤ◌}
use mir.Facts.{to_z-of_z}
use mir.Syntax.{w64}
use mir.Val.{to_z, of_z}
use Rattle.algebra.specs.Integer.{nat_abs_mul}
use Rattle.numbers.specs.Division.{floor}
use Rattle.numbers.proofs.DivisionLaws.{remainder_is}
use Rattle.fixed.specs.MachineLaws.{answered}
use Rattle.calculus.specs.Operations.{common_denominator}
use Rattle.model_integral.specs.IntegralParts.{most_parts}
use Rattle.model_integral.specs.IntegralPartsLaws.{denominator_pos, parts_fit, whole_within}
use Rattle.model_integral.proofs.rest.Goals as goal
use Rattle.model_integral.proofs.rest.Goals.{After-product-whole, After-signed}

-- the operands
module _ (c : After-signed) where
  quotient_is : to_z w64 (of_z w64 c.args.quotient) ≡ floor c.args.total common_denominator
  quotient_is = to_z-of_z c.ranges.quotient ∙ c.requires.1

  denominator_is : to_z w64 (of_z w64 c.signed.result) ≡ pos common_denominator
  unfolding common_denominator
  denominator_is = answered c.signed.type_inv c.signed.ensures

  whole_fits : nat_abs (floor c.args.total common_denominator) * common_denominator ≤ most_parts
  whole_fits = whole_within c.args.total c.requires.0

whole : (c : After-product-whole) → to_z w64 (of_z w64 c.product-whole.result)
    ≡ floor c.args.total common_denominator *ℤ pos common_denominator
whole c = answered c.product-whole.type_inv
    (c.product-whole.ensures ∙ ap₂ ◌*ℤ◌ (quotient_is c.before) (denominator_is c.before))

pub product-whole-requires : goal.product-whole-requires
product-whole-requires c = rw (quotient_is c, denominator_is c) (omega (arith, parts_fit, whole_fits c))

pub difference-requires : goal.difference-requires
difference-requires c =
    rw (to_z-of_z c.ranges.total, whole c)
    (omega (
      arith,
      parts_fit,
      c.requires.0,
      whole_fits (goal.at.difference-requires c).After-signed,
      nat_abs_mul (floor c.args.total common_denominator) (pos common_denominator),
    ))

pub returns : goal.returns
returns c =
    c.magnitude.ensures
    ∙ ap nat_abs
    (answered c.difference.type_inv
    (c.difference.ensures ∙ ap₂ ◌-ℤ◌ (to_z-of_z c.ranges.total) (whole (goal.at.returns c).After-product-whole))
    ∙ remainder_is c.args.total common_denominator denominator_pos)
