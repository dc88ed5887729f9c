-- `negated` is exact.
use mathlib.Core.Path.{◌∙◌}
use lib.IntN.{+ℤ_idl}
use mir.Facts.{to_z-of_z}
use Rattle.algebra.specs.Integer.{natAbs_neg}
use Rattle.fixed.specs.MachineLaws.{fits_size}
use Rattle.fixed.proofs.negated.Goals as goal

pub overflow_sub-result : goal.overflow_sub-result
overflow_sub-result c = rw (to_z-of_z c.ranges.z, +ℤ_idl) (fits_size (rw natAbs_neg c.requires))

pub returns : goal.returns
returns c = to_z-of_z (overflow_sub-result c) ∙ rw (to_z-of_z c.ranges.z, +ℤ_idl)
