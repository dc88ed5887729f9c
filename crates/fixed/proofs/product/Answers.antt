-- `product` is exact.
use mathlib.Core.Path.{◌∙◌}
use mir.Facts.{to_z-of_z}
use Rattle.algebra.specs.Integer.{nat_abs_mul}
use Rattle.fixed.specs.MachineLaws.{fits_size}
use Rattle.fixed.proofs.product.Goals as goal

pub overflow_mul-result : goal.overflow_mul-result
overflow_mul-result c = rw (to_z-of_z c.ranges.a, to_z-of_z c.ranges.b) (fits_size (rw nat_abs_mul c.requires))

pub returns : goal.returns
returns c = to_z-of_z (overflow_mul-result c) ∙ rw (to_z-of_z c.ranges.a, to_z-of_z c.ranges.b)
