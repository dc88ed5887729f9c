-- `sum` is exact.
use mathlib.Core.Path.{◌∙◌}
use native.Mathlib.Omega.{arith}
use mir.Facts.{to_z-of_z}
use Rattle.algebra.specs.Integer.{natAbs_add}
use Rattle.fixed.specs.MachineLaws.{fits_size}
use Rattle.fixed.proofs.sum.Goals as goal

pub overflow_add-result : goal.overflow_add-result
overflow_add-result c =
    rw (to_z-of_z c.ranges.a, to_z-of_z c.ranges.b)
    (fits_size (omega (arith, natAbs_add c.args.a c.args.b)))

pub returns : goal.returns
returns c = to_z-of_z (overflow_add-result c) ∙ rw (to_z-of_z c.ranges.a, to_z-of_z c.ranges.b)
