use mathlib.Core.Path.{◌≡◌, sym, ◌∙◌, ap}
use native.Mathlib.Omega.{arith}
use borrow.Author.Rules.{rules}
use lib.ListN.{length, take, drop}
use Rattle.calculus.specs.Tests.{all_zero, all_in_unit}
use Rattle.model_types.specs.ModelStruct.{cause}
use Rattle.model_readings.specs.FindingLaws.{unused_holds, unused_fails, drop_eight}
use Rattle.model_readings.proofs.unused_at.Goals as goal
use Rattle.model_readings.proofs.unused_at.Goals.{After-unused_zero, Start}

whole : (c : Start) → length c.args.r.x ≡ 8
whole c = search rules

pub unused_zero-requires : goal.unused_zero-requires
unused_zero-requires c = omega (arith, c.coordinates.ensures)

tested : (c : After-unused_zero) → c.unused_zero.result ≡ all_zero
    (drop c.args.n c.args.r.x)
tested c =
    c.unused_zero.ensures ∙ ap (λ n. all_zero (drop n c.args.r.x)) c.coordinates.ensures
    ∙ ap all_zero (drop_eight c.args.n c.args.r.x (whole c.before.before.before))

pub returns-then-unused_zero : goal.returns-then-unused_zero
returns-then-unused_zero c = c.nothing.ensures ∙ unused_holds _ _ _
    (sym (tested (goal.at.returns-then-unused_zero c).After-unused_zero) ∙ c.if-unused_zero.true)

pub returns : goal.returns
unfolding cause
returns c = c.refused_at.ensures ∙ unused_fails _ _ _ (sym (tested (goal.at.returns c).After-unused_zero)
    ∙ c.if-unused_zero.false)
