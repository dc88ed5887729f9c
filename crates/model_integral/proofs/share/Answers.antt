-- `share` multiplies, then divides by the rule.
use mathlib.Core.Path.{◌≡◌, ◌∙◌, ap₂}
use native.Mathlib.Omega.{arith}
use lib.IntN.{◌*ℤ◌}
use mir.Facts.{to_z-of_z}
use mir.Syntax.{w64}
use mir.Val.{to_z, of_z}
use Rattle.algebra.specs.Integer.{nat_abs_mul}
use Rattle.polynomial.proofs.IntegralLaws.{divisor_pos}
use Rattle.fixed.specs.MachineLaws.{answered}
use Rattle.calculus.specs.Key.{key_width, key_exponents}
use Rattle.model_integral.specs.Rounding.{rule}
use Rattle.model_integral.proofs.share.Goals as goal
use Rattle.model_integral.proofs.share.Goals.{After-product}

multiplied : (c : After-product)
    → to_z w64 (of_z w64 c.product.result) ≡ c.args.coefficient *ℤ c.args.scale
multiplied c =
    let f = c.ranges in
    answered c.product.type_inv (c.product.ensures ∙ ap₂ ◌*ℤ◌ (to_z-of_z f.coefficient) (to_z-of_z f.scale))

pub divided-requires : goal.divided-requires
divided-requires c = (
  rw (multiplied (goal.at.divided-requires c).After-product)
      (omega (arith, c.requires, nat_abs_mul c.args.coefficient c.args.scale)),
  omega (arith, c.divisor.ensures, divisor_pos key_width (key_exponents key_width key_width c.args.key)),
)

pub returns : goal.returns
returns c =
    answered c.divided.type_inv
    (c.divided.ensures ∙ ap₂ (rule _) (multiplied (goal.at.returns c).After-product) c.divisor.ensures)
