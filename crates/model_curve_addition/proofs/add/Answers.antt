-- `add` tests both curves, adds them, then tests the span.
use mathlib.Core.Path.{◌≡◌, sym, ◌∙◌, ap, subst}
use mathlib.Core.Bool.{true}
use lib.Dec.{T}
use Rattle.calculus.specs.Refusal.{at_place}
use Rattle.chebyshev.specs.Curve.{sound}
use Rattle.chebyshev.specs.CurveOperations.{limited_curve}
use Rattle.model_types.specs.ModelStruct.{cause}
use Rattle.model_types.specs.CurveStruct.{view_curve, curve_answer}
use Rattle.model_curve_addition.specs.CurveAnswerLaws.{first_unsound, second_unsound, both_sound}
use Rattle.model_curve_addition.proofs.add.Goals as goal
use Rattle.model_curve_addition.proofs.add.Goals.{Else-not-curve_sound, Else-not-curve_sound-2}

pub returns-then-not-curve_sound : goal.returns-then-not-curve_sound
unfolding cause
returns-then-not-curve_sound c =
    c.refuse_curve.ensures ∙ first_unsound _ _ (sym c.curve_sound.ensures ∙ c.if-not-curve_sound.true)

first_sound : (c : Else-not-curve_sound) → sound (view_curve c.args.f) ≡ true
first_sound c = sym c.curve_sound.ensures ∙ c.if-not-curve_sound.false

pub returns-then-not-curve_sound-2 : goal.returns-then-not-curve_sound-2
unfolding cause
returns-then-not-curve_sound-2 c =
    c.refuse_curve-then-not-curve_sound-2.ensures
    ∙ second_unsound _ _ (first_sound (goal.at.returns-then-not-curve_sound-2 c).Else-not-curve_sound)
    (sym c.curve_sound-2.ensures ∙ c.if-not-curve_sound-2.true)

second_sound : (c : Else-not-curve_sound-2) → sound (view_curve c.args.g) ≡ true
second_sound c = sym c.curve_sound-2.ensures ∙ c.if-not-curve_sound-2.false

pub added_curves-requires : goal.added_curves-requires
added_curves-requires c =
    record {
      t = subst T (sym (first_sound (goal.at.added_curves-requires c).Else-not-curve_sound)) tt;
      t_2 = subst T (sym (second_sound c)) tt;
    }

pub returns : goal.returns
returns c =
    c.limited_curve.ensures
    ∙ ap (λ h. curve_answer (at_place 0 (limited_curve (view_curve h)))) c.added_curves.ensures
    ∙ both_sound _ _ (first_sound (goal.at.returns c).Else-not-curve_sound)
    (second_sound (goal.at.returns c).Else-not-curve_sound-2)
