-- `turned_curve` turns the sign of each coefficient.
use mathlib.Core.Path.{◌≡◌, ◌∙◌, ap}
use mathlib.Core.List.{map}
use native.Mathlib.Omega.{arith}
use borrow.Author.Rules.{rules}
use lib.IntN.{neg_ℤ, pos}
use lib.ListN.{length, get_or, length-map}
use mir.Facts.{to_z-of_z}
use mir.Syntax.{w64}
use mir.Val.{to_z, of_z}
use Rattle.fixed.specs.MachineLaws.{answered}
use Rattle.chebyshev.specs.CurveOperations.{negate}
use Rattle.model_curve_addition.specs.CurveLoopLaws.{copied_first, copied_iteration}
use Rattle.model_curve_addition.specs.CurveLoopLaws.{copied_end}
use Rattle.model_curve_addition.specs.CurveLoopLaws.{negated_at, entry_small}
use Rattle.model_curve_addition.proofs.turned_curve.Goals as goal
use Rattle.model_curve_addition.proofs.turned_curve.Goals.{After-negated-arg-1, Start}

whole : (c : Start) → length c.args.c.coefficients ≡ 16
whole c = search rules

turned : (c : Start) → length (map neg_ℤ c.args.c.coefficients) ≡ 16
turned c = length-map c.args.c.coefficients neg_ℤ ∙ whole c

-- the coefficient at hand
read_back : (c : After-negated-arg-1)
    → let z = get_or c.args.c.coefficients c.loop-i.i (pos 0) in to_z w64 (of_z w64 z) ≡ z
read_back c = to_z-of_z {w = w64} (record { sfits = c.negated-arg-1.given })

pub loop-i-init : goal.loop-i-init
loop-i-init c = copied_first _ (turned c)

pub negated-z-requires : goal.negated-z-requires
negated-z-requires c =
    rw (read_back c) (omega (arith, entry_small c.args.c c.loop-i.i c.requires))

pub loop-i-preserved : goal.loop-i-preserved
loop-i-preserved c =
    copied_iteration _ (turned (goal.at.loop-i-preserved c).Start) _ _ _ c.loop-i.invariant c.loop-i-test.true
    (answered c.negated-z.type_inv c.negated-z.ensures
    ∙ ap neg_ℤ (read_back (goal.at.loop-i-preserved c).After-negated-arg-1)
    ∙ negated_at c.args.c.coefficients c.loop-i.i)

pub returns : goal.returns
unfolding negate
returns c =
    ap (λ o. record { coefficients = o; radius = c.args.c.radius })
    (copied_end _ (turned (goal.at.returns c).Start) _ _ c.loop-i.invariant c.loop-i-test.false)
