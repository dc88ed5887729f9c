-- `magnitude` is the absolute value, also of the least number.
use mathlib.Core.Path.{◌≡◌, ap, ◌∙◌}
use native.Mathlib.Omega.{arith}
use borrow.Author.Rules.{rules}
use lib.IntN.{pos, negsuc, nat_abs, ◌-ℤ◌}
use lib.Signed.{mag}
use mir.Facts.{to_z-of_z}
use mir.Syntax.{w64}
use mir.Val.{to_z, of_z}
use Rattle.fixed.specs.MachineLaws.{complement_negsuc, fits_complement, negative, not_negative}
use Rattle.fixed.proofs.magnitude.Goals as goal
use Rattle.fixed.proofs.magnitude.Goals.{Then-z-lt0}

pub overflow_sub-before : goal.overflow_sub-before
overflow_sub-before c = rw (to_z-of_z c.before.ranges.z) (fits_complement c.before.ranges.z)

-- before −(n + 1) stands n
turned : (c : Then-z-lt0)
    → to_z w64 (of_z w64 (negsuc 0 -ℤ to_z w64 (of_z w64 c.before.args.z))) ≡ pos (mag c.before.args.z)
turned c =
    let f = c.before.ranges.z in
    to_z-of_z (overflow_sub-before c)
    ∙ ap (λ z. negsuc 0 -ℤ z) (to_z-of_z f ∙ negative f c.if-z-lt0.true)
    ∙ complement_negsuc _

pub overflow_cast-result : goal.overflow_cast-result
overflow_cast-result c = rw (turned c) (tt, omega (arith, c.before.ranges))

pub overflow_add-result : goal.overflow_add-result
overflow_add-result c = rw (turned c) (omega (arith, c.before.ranges))

pub overflow_cast-result-else-z-lt0 : goal.overflow_cast-result-else-z-lt0
overflow_cast-result-else-z-lt0 c =
    let f = c.before.ranges.z in
    rw (to_z-of_z f ∙ not_negative f c.if-z-lt0.false) (tt, omega arith)

pub returns-then-z-lt0 : goal.returns-then-z-lt0
returns-then-z-lt0 c = rw (turned c) (omega (arith, ap nat_abs (negative c.before.ranges.z c.if-z-lt0.true)))
