-- `divided` rounds by the rule.
use mathlib.Core.Path.{sym, ◌∙◌, ap}
use mir.Facts.{to_z-of_z}
use Rattle.numbers.specs.Division.{floor, ceiling}
use Rattle.fixed.specs.MachineLaws.{answered}
use Rattle.model_integral.specs.Rounding.{rule}
use Rattle.model_integral.proofs.divided.Goals as goal

pub returns-then-up : goal.returns-then-up
unfolding rule
returns-then-up c =
    answered c.ceiling_divided.type_inv
    (c.ceiling_divided.ensures ∙ ap (λ z. ceiling z c.args.d) (to_z-of_z c.ranges.z))
    ∙ sym (rw c.if-up.true)

pub returns-else-up : goal.returns-else-up
unfolding rule
returns-else-up c =
    answered c.floor_divided.type_inv (c.floor_divided.ensures ∙ ap (λ z. floor z c.args.d) (to_z-of_z c.ranges.z))
    ∙ sym (rw c.if-up.false)
