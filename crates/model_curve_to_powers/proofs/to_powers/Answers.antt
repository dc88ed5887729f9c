-- `to_powers` tests the curve, then converts it.
use mathlib.Core.Path.{◌≡◌, sym, ◌∙◌, subst}
use mathlib.Core.Bool.{true}
use borrow.Author.Rules.{rules}
use borrow.Author.Tests.{not-true, not-false}
use lib.Dec.{T}
use Rattle.chebyshev.specs.Curve.{sound}
use Rattle.model_types.specs.ModelStruct.{cause}
use Rattle.model_types.specs.CurveStruct.{view_curve}
use Rattle.model_curve_to_powers.specs.PowerLoopLaws.{powers_unsound, powers_sound}
use Rattle.model_curve_to_powers.proofs.to_powers.Goals as goal
use Rattle.model_curve_to_powers.proofs.to_powers.Goals.{Else-not-curve_sound}

pub returns-then-not-curve_sound : goal.returns-then-not-curve_sound
unfolding cause
returns-then-not-curve_sound c =
    c.refuse.ensures ∙ powers_unsound _ (sym c.curve_sound.ensures ∙ c.if-not-curve_sound.true)

is_sound : (c : Else-not-curve_sound) → sound (view_curve c.args.c) ≡ true
is_sound c = sym c.curve_sound.ensures ∙ c.if-not-curve_sound.false

pub in_powers-requires : goal.in_powers-requires
in_powers-requires c = subst T (sym (is_sound c)) tt

pub returns : goal.returns
returns c = c.in_powers.ensures ∙ powers_sound _ (is_sound (goal.at.returns c).Else-not-curve_sound)
