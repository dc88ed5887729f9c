-- `divided` is 0 for a term that is swept, else the quotient to the nearest.
use mathlib.Core.Path.{sym, ◌∙◌, ap₂}
use native.Mathlib.Omega.{arith}
use mir.Facts.{to_z-of_z}
use Rattle.numbers.specs.Division.{nearest}
use Rattle.fixed.specs.MachineLaws.{answered}
use Rattle.calculus_laws.specs.SumLaws.{if_so}
use Rattle.model_antiderivative.specs.Antiderivatives.{key_coefficient}
use Rattle.model_antiderivative.proofs.divided.Goals as goal

pub returns-then-not-stays : goal.returns-then-not-stays
unfolding key_coefficient if_so
returns-then-not-stays c = rw (sym c.stays.ensures ∙ c.if-not-stays.true)

pub new_exponent-requires : goal.new_exponent-requires
new_exponent-requires c = c.requires.slot

pub nearest_divided-requires : goal.nearest_divided-requires
nearest_divided-requires c =
    record {
      z_bound = rw (to_z-of_z c.ranges.coefficient) c.requires.coefficient_bound;
      d_nonzero = omega (arith, c.new_exponent.ensures);
    }

pub returns : goal.returns
unfolding key_coefficient if_so
returns c =
    answered c.nearest_divided.type_inv
    (c.nearest_divided.ensures ∙ ap₂ nearest (to_z-of_z c.ranges.coefficient) c.new_exponent.ensures)
    ∙ sym (rw (sym c.stays.ensures ∙ c.if-not-stays.false))
