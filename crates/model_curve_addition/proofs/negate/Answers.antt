-- `negate` tests the curve, then turns its signs.
use mathlib.Core.Path.{◌≡◌, sym, ◌∙◌, ap, subst}
use mathlib.Core.Bool.{true}
use lib.Dec.{T}
use Rattle.chebyshev.specs.Curve.{sound}
use Rattle.model_types.specs.ModelStruct.{cause}
use Rattle.std.specs.Prelude.{Ok}
use Rattle.model_types.specs.CurveStruct.{view_curve}
use Rattle.model_curve_addition.specs.CurveAnswerLaws.{negate_unsound, negate_sound}
use Rattle.model_curve_addition.proofs.negate.Goals as goal
use Rattle.model_curve_addition.proofs.negate.Goals.{Else-not-curve_sound}

pub returns-then-not-curve_sound : goal.returns-then-not-curve_sound
unfolding cause
returns-then-not-curve_sound c =
    c.refuse_curve.ensures ∙ negate_unsound _ (sym c.curve_sound.ensures ∙ c.if-not-curve_sound.true)

is_sound : (c : Else-not-curve_sound) → sound (view_curve c.args.c) ≡ true
is_sound c = sym c.curve_sound.ensures ∙ c.if-not-curve_sound.false

pub turned_curve-requires : goal.turned_curve-requires
turned_curve-requires c = subst T (sym (is_sound c)) tt

pub returns : goal.returns
returns c =
    ap (λ r. record { curve = r; verdict = Ok tt }) c.turned_curve.ensures
    ∙ negate_sound _ (is_sound (goal.at.returns c).Else-not-curve_sound)
