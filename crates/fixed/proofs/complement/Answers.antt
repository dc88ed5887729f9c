-- `complement` is exact.
use mathlib.Core.Path.{◌∙◌}
use mir.Facts.{to_z-of_z}
use Rattle.fixed.specs.MachineLaws.{fits_complement}
use Rattle.fixed.proofs.complement.Goals as goal

pub overflow_sub-result : goal.overflow_sub-result
overflow_sub-result c = rw (to_z-of_z c.ranges.z) (fits_complement c.ranges.z)

pub returns : goal.returns
returns c = to_z-of_z (overflow_sub-result c) ∙ rw (to_z-of_z c.ranges.z)
