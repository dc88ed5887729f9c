-- `curve_sound` answers by the span, which is known as far as the cap.
use mathlib.Core.Path.{◌≡◌, ◌∙◌, ap}
use Prim.Native.Nat.{◌+◌}
use borrow.Author.Rules.{rules}
use lib.IntN.{nat_abs, pos}
use lib.ListN.{length, get_or}
use mir.Facts.{to_z-of_z}
use mir.Syntax.{w64}
use mir.Val.{to_z, of_z}
use Rattle.numbers.specs.Fixed.{capped}
use Rattle.model_curve_addition.specs.CurveLoopLaws.{summed_first, summed_iteration, summed_end}
use Rattle.model_curve_addition.proofs.curve_sound.Goals as goal
use Rattle.model_curve_addition.proofs.curve_sound.Goals.{After-magnitude-arg-1, Start}

whole : (c : Start) → length c.args.c.coefficients ≡ 16
whole c = search rules

pub loop-z-init : goal.loop-z-init
loop-z-init c = summed_first _ (whole (goal.at.loop-z-init c).Start)

-- the coefficient at hand
read_back : (c : After-magnitude-arg-1)
    → let z = get_or c.args.c.coefficients c.loop-z.z-index (pos 0) in to_z w64 (of_z w64 z) ≡ z
read_back c = to_z-of_z {w = w64} (record { sfits = c.magnitude-arg-1.given })

pub loop-z-preserved : goal.loop-z-preserved
loop-z-preserved c =
    summed_iteration _ (whole (goal.at.loop-z-preserved c).Start) _ _ _ c.loop-z.invariant c.loop-z-test.true
    (c.capped_sum-total.ensures ∙ ap (λ x. capped (c.loop-z.total + x))
    (c.magnitude.ensures ∙ ap nat_abs (read_back (goal.at.loop-z-preserved c).After-magnitude-arg-1)))

pub returns : goal.returns
returns c =
    c.within_span.ensures ∙ summed_end _ (whole (goal.at.returns c).Start) _ _ c.loop-z.invariant c.loop-z-test.false
