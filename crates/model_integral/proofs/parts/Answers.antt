-- `parts` multiplies a coefficient by the volume and by the denominator divided by the term's divisor.
use mathlib.Core.Path.{◌≡◌, ◌∙◌, ap, ap₂}
use Prim.Native.Nat.{◌*◌, ◌/◌, ◌≤◌}
use native.Mathlib.Nat as NatL
use native.Mathlib.Omega.{arith}
use lib.IntN.{pos, nat_abs, ◌*ℤ◌}
use mir.Facts.{to_z-of_z}
use mir.Syntax.{w64}
use mir.Val.{to_z, of_z}
use Rattle.polynomial.proofs.IntegralLaws.{divisor_pos}
use Rattle.fixed.specs.MachineLaws.{answered}
use Rattle.calculus.specs.Key.{key_width, key_exponents}
use Rattle.calculus.specs.Operations.{common_denominator}
use Rattle.model_integral.proofs.parts.Goals as goal
use Rattle.model_integral.proofs.parts.Goals.{After-divisor-share, After-signed}

pub nonzero_div-share : goal.nonzero_div-share
nonzero_div-share c = omega (
  arith,
  c.divisor-share.ensures,
  divisor_pos key_width (key_exponents key_width key_width c.args.key),
)

-- the volume times the denominator's part
module _ (c : After-divisor-share) where
  at_most : c.args.scale * (common_denominator / c.divisor-share.result) ≤ 16 * common_denominator
  at_most = NatL.mul-le-mul c.requires.0 (NatL.div-le_self common_denominator c.divisor-share.result)

pub overflow_mul-scale : goal.overflow_mul-scale
unfolding common_denominator
overflow_mul-scale c = omega (arith, at_most c)

pub signed-requires : goal.signed-requires
unfolding common_denominator
signed-requires c = omega (arith, at_most c)

-- as a signed number
scaled : (c : After-signed) → to_z w64 (of_z w64 c.signed.result)
    ≡ pos (c.args.scale * (common_denominator / c.divisor-share.result))
unfolding common_denominator
scaled c = answered c.signed.type_inv c.signed.ensures

module _ (c : After-signed) where
  read_back : to_z w64 (of_z w64 c.args.coefficient) ≡ c.args.coefficient
  read_back = to_z-of_z c.ranges.coefficient

pub product-requires : goal.product-requires
product-requires c =
    rw (read_back c, scaled c)
    (omega (
      arith,
      c.requires.1,
      NatL.mul-le-mul_left (nat_abs c.args.coefficient)
          (at_most (goal.at.product-requires c).After-divisor-share),
    ))

pub returns : goal.returns
returns c =
    answered c.product.type_inv
    (c.product.ensures
    ∙ ap₂ ◌*ℤ◌ (read_back (goal.at.returns c).After-signed)
    (scaled (goal.at.returns c).After-signed
    ∙ ap (λ v. pos (c.args.scale * (common_denominator / v))) c.divisor-share.ensures))
