-- `subtract` tests both curves, adds the second one negated, then tests the span.
use mathlib.Core.Path.{◌≡◌, sym, ◌∙◌, ap, subst}
use mathlib.Core.Bool.{true}
use lib.Dec.{T}
use Rattle.calculus.specs.Refusal.{at_place}
use Rattle.chebyshev.specs.Curve.{sound}
use Rattle.chebyshev.specs.CurveOperations.{limited_curve, added}
use Rattle.chebyshev.proofs.CurveSoundLaws.{negate_sound}
use Rattle.model_types.specs.ModelStruct.{cause}
use Rattle.model_types.specs.CurveStruct.{view_curve, curve_answer}
use Rattle.model_curve_addition.specs.CurveAnswerLaws.{minuend_unsound, subtrahend_unsound, subtracted}
use Rattle.model_curve_addition.proofs.subtract.Goals as goal
use Rattle.model_curve_addition.proofs.subtract.Goals.{After-turned_curve, Else-not-curve_sound, Else-not-curve_sound-2}

pub returns-then-not-curve_sound : goal.returns-then-not-curve_sound
unfolding cause
returns-then-not-curve_sound c =
    c.refuse_curve.ensures ∙ minuend_unsound _ _ (sym c.curve_sound.ensures ∙ c.if-not-curve_sound.true)

first_sound : (c : Else-not-curve_sound) → sound (view_curve c.args.f) ≡ true
first_sound c = sym c.curve_sound.ensures ∙ c.if-not-curve_sound.false

pub returns-then-not-curve_sound-2 : goal.returns-then-not-curve_sound-2
unfolding cause
returns-then-not-curve_sound-2 c =
    c.refuse_curve-then-not-curve_sound-2.ensures
    ∙ subtrahend_unsound _ _ (first_sound (goal.at.returns-then-not-curve_sound-2 c).Else-not-curve_sound)
    (sym c.curve_sound-2.ensures ∙ c.if-not-curve_sound-2.true)

second_sound : (c : Else-not-curve_sound-2) → sound (view_curve c.args.g) ≡ true
second_sound c = sym c.curve_sound-2.ensures ∙ c.if-not-curve_sound-2.false

pub turned_curve-requires : goal.turned_curve-requires
turned_curve-requires c = subst T (sym (second_sound c)) tt

turned_sound : (c : After-turned_curve) → T (sound (view_curve c.turned_curve.result))
turned_sound c =
    subst (λ h. T (sound (view_curve h))) (sym c.turned_curve.ensures)
    (negate_sound _ (subst T (sym (second_sound c.before)) tt))

pub added_curves-requires : goal.added_curves-requires
added_curves-requires c =
    record {
      t = subst T (sym (first_sound (goal.at.added_curves-requires c).Else-not-curve_sound)) tt;
      t_2 = turned_sound c;
    }

pub returns : goal.returns
returns c =
    c.limited_curve.ensures
    ∙ ap (λ h. curve_answer (at_place 0 (limited_curve (view_curve h)))) c.added_curves.ensures
    ∙ ap (λ h. curve_answer (at_place 0 (limited_curve
    (added (view_curve c.args.f) (view_curve h))))) c.turned_curve.ensures
    ∙ subtracted _ _ (first_sound (goal.at.returns c).Else-not-curve_sound)
    (second_sound (goal.at.returns c).Else-not-curve_sound-2)
