-- `scaled_coefficient` multiplies and rounds.
use mathlib.Core.Path.{◌∙◌, ap, ap₂}
use borrow.Author.Rules.{rules}
use lib.IntN.{◌*ℤ◌}
use mir.Facts.{to_z-of_z}
use Rattle.fixed.specs.declared.Rounded.{Rounded}
use Rattle.numbers.specs.Fixed.{round}
use Rattle.fixed.specs.MachineLaws.{answered}
use Rattle.model_scaling.specs.Scaling.{scaled_coefficient}
use mir.Syntax.{w64}
use Rattle.model_scaling.proofs.scaled_coefficient.Goals as goal

pub returns : goal.returns
unfolding scaled_coefficient
returns c =
    to_z-of_z {w = w64} (record { sfits = c.struct_told-1.given.0.1 })
    ∙ ap (λ (c : Rounded). c.coefficient) c.round-r.ensures
    ∙ ap round (answered c.product.type_inv c.product.ensures)
    ∙ ap₂ (λ a b. round (a *ℤ b)) (to_z-of_z c.ranges.c) (to_z-of_z c.ranges.x)
