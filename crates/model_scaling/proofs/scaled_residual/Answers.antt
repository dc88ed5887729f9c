-- `scaled_residual` multiplies and rounds.
use mathlib.Core.Path.{◌∙◌, ap, ap₂}
use borrow.Author.Rules.{rules}
use lib.IntN.{◌*ℤ◌}
use mir.Facts.{to_z-of_z}
use Rattle.fixed.specs.declared.Rounded.{Rounded}
use Rattle.numbers.specs.Fixed.{residual}
use Rattle.fixed.specs.MachineLaws.{answered}
use Rattle.model_scaling.specs.Scaling.{scaled_residual}
use Rattle.model_scaling.proofs.scaled_residual.Goals as goal

pub returns : goal.returns
unfolding scaled_residual
returns c =
    ap (λ (r : Rounded). r.residual) c.round-r.ensures
    ∙ ap residual (answered c.product.type_inv c.product.ensures)
    ∙ ap₂ (λ a b. residual (a *ℤ b)) (to_z-of_z c.ranges.c) (to_z-of_z c.ranges.x)
