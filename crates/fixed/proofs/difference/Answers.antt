-- `difference` is exact.
use mathlib.Core.Path.{◌∙◌}
use native.Mathlib.Omega.{arith}
use lib.IntN.{neg_ℤ}
use mir.Facts.{to_z-of_z}
use Rattle.algebra.specs.Integer.{natAbs_add, natAbs_neg}
use Rattle.fixed.specs.MachineLaws.{fits_size}
use Rattle.fixed.proofs.difference.Goals as goal

pub overflow_sub-result : goal.overflow_sub-result
overflow_sub-result c =
    rw (to_z-of_z c.ranges.a, to_z-of_z c.ranges.b)
    (fits_size (omega (arith, natAbs_add c.args.a (neg_ℤ c.args.b), natAbs_neg c.args.b)))

pub returns : goal.returns
returns c = to_z-of_z (overflow_sub-result c) ∙ rw (to_z-of_z c.ranges.a, to_z-of_z c.ranges.b)
