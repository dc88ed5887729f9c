-- `limited_curve` answers by the span.
use mathlib.Core.Path.{◌≡◌, sym, ◌∙◌}
use borrow.Author.Rules.{rules}
use lib.ListN.{length}
use Rattle.model_types.specs.ModelStruct.{cause}
use Rattle.model_curve_addition.specs.CurveAnswerLaws.{limited_in, limited_out}
use Rattle.model_curve_addition.proofs.limited_curve.Goals as goal
use Rattle.model_curve_addition.proofs.limited_curve.Goals.{Start}

whole : (c : Start) → length c.args.c.coefficients ≡ 16
whole c = search rules

pub returns-then-curve_sound : goal.returns-then-curve_sound
returns-then-curve_sound c = limited_in _ (whole (goal.at.returns-then-curve_sound c).Start) (sym c.curve_sound.ensures
    ∙ c.if-curve_sound.true)

pub returns : goal.returns
unfolding cause
returns c =
    c.refuse_curve.ensures
    ∙ limited_out _ (whole (goal.at.returns c).Start) (sym c.curve_sound.ensures ∙ c.if-curve_sound.false)
