use mathlib.Core.Path.{◌≡◌, sym, ◌∙◌, ap}
use native.Mathlib.Omega.{arith}
use borrow.Author.Rules.{rules}
use lib.ListN.{length, take, drop}
use Rattle.calculus.specs.Tests.{all_zero, all_in_unit}
use Rattle.model_types.specs.ModelStruct.{cause}
use Rattle.model_readings.specs.FindingLaws.{within_holds, within_fails, take_eight}
use Rattle.model_readings.proofs.within_at.Goals as goal
use Rattle.model_readings.proofs.within_at.Goals.{After-used_within, Start}

whole : (c : Start) → length c.args.r.x ≡ 8
whole c = search rules

pub used_within-requires : goal.used_within-requires
used_within-requires c = omega (arith, c.coordinates.ensures)

tested : (c : After-used_within) → c.used_within.result ≡ all_in_unit
    (take c.args.n c.args.r.x)
tested c =
    c.used_within.ensures ∙ ap (λ n. all_in_unit (take n c.args.r.x)) c.coordinates.ensures
    ∙ ap all_in_unit (take_eight c.args.n c.args.r.x (whole c.before.before.before))

pub returns-then-used_within : goal.returns-then-used_within
returns-then-used_within c = c.nothing.ensures ∙ within_holds _ _ _
    (sym (tested (goal.at.returns-then-used_within c).After-used_within) ∙ c.if-used_within.true)

pub returns : goal.returns
unfolding cause
returns c = c.refused_at.ensures ∙ within_fails _ _ _ (sym (tested (goal.at.returns c).After-used_within)
    ∙ c.if-used_within.false)
