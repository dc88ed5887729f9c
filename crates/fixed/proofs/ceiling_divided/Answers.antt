-- `ceiling_divided` is the ceiling, by the floor of −z.
use mathlib.Core.Path.{◌≡◌, ap, ◌∙◌}
use native.Mathlib.Omega.{arith}
use borrow.Author.Rules.{rules}
use lib.IntN.{neg_ℤ}
use mir.Facts.{to_z-of_z}
use mir.Syntax.{w64}
use mir.Val.{to_z, of_z}
use Rattle.algebra.specs.Integer.{natAbs_neg}
use Rattle.numbers.specs.Division.{floor, ceiling}
use Rattle.numbers.proofs.DivisionLaws.{floor_le_abs}
use Rattle.fixed.specs.MachineLaws.{answered}
use Rattle.fixed.proofs.ceiling_divided.Goals as goal
use Rattle.fixed.proofs.ceiling_divided.Goals.{After-floor_divided}

-- what the second negation is given
floored : (c : After-floor_divided)
    → to_z w64 (of_z w64 c.floor_divided.result)
    ≡ floor (neg_ℤ c.before.before.args.z) c.before.before.args.d
floored c =
    let s = c.before.before in
    let n = c.before.negated in
    answered c.floor_divided.type_inv c.floor_divided.ensures
    ∙ ap (λ z. floor z s.args.d) (answered n.type_inv (n.ensures ∙ ap neg_ℤ (to_z-of_z s.ranges.z)))

pub negated-requires-2 : goal.negated-requires-2
negated-requires-2 c =
    let s = c.before.before in
    rw (floored c) (omega (arith, floor_le_abs (neg_ℤ s.args.z) s.args.d, natAbs_neg s.args.z, s.requires))

pub returns : goal.returns
unfolding ceiling
returns c = answered c.negated-2.type_inv (c.negated-2.ensures ∙ ap neg_ℤ (floored c.before))
