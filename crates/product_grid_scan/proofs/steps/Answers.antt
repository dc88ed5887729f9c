-- `steps` takes the smaller of the side and one more than what is left.
use native.Mathlib.Omega.{arith}
use Rattle.product_grid_scan.specs.GridTermsLaws.{steps_short, steps_whole}
use Rattle.product_grid_scan.proofs.steps.Goals as goal

pub returns-then-left-side : goal.returns-then-left-side
returns-then-left-side c =
    omega (arith, steps_short c.args.side c.args.left (omega (arith, c.if-left-side.true)))

pub returns-else-left-side : goal.returns-else-left-side
returns-else-left-side c = steps_whole _ _ (omega (arith, c.if-left-side.false))
