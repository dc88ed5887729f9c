-- `multiply` tests both curves, collects their products, rounds them once, then tests the span.
use mathlib.Core.Path.{◌≡◌, sym, ◌∙◌, ap, ap₂, subst}
use mathlib.Core.Bool.{true}
use Prim.Native.Nat.{◌+◌, ◌*◌, ◌^◌, ◌≤◌, ◌<◌}
use native.Mathlib.Omega.{arith}
use borrow.Author.Rules.{rules}
use borrow.Author.Tests.{not-true, not-false}
use lib.Dec.{T}
use Rattle.numbers.specs.Fixed.{U}
use Rattle.calculus.specs.Refusal.{at_place}
use Rattle.chebyshev.specs.Coefficients.{size}
use Rattle.chebyshev.specs.Curve.{sound}
use Rattle.chebyshev.specs.CurveOperations.{limited_curve, rounded, products, carried}
use Rattle.model_types.specs.ModelStruct.{cause}
use Rattle.model_types.specs.CurveStruct.{view_curve, pack_curve, curve_answer}
use Rattle.model_curve_multiplication.specs.CollectLaws.{factor_unsound, other_unsound, factors_sound}
use Rattle.model_curve_multiplication.specs.CollectLaws.{products_size, two_units}
use Rattle.model_curve_multiplication.proofs.multiply.Goals as goal
use Rattle.model_curve_multiplication.proofs.multiply.Goals.{Else-not-curve_sound, Else-not-curve_sound-2}

pub returns-then-not-curve_sound : goal.returns-then-not-curve_sound
unfolding cause
returns-then-not-curve_sound c =
    c.refuse_curve.ensures ∙ factor_unsound _ _ (sym c.curve_sound.ensures ∙ c.if-not-curve_sound.true)

first_sound : (c : Else-not-curve_sound) → sound (view_curve c.args.f) ≡ true
first_sound c = sym c.curve_sound.ensures ∙ c.if-not-curve_sound.false

pub returns-then-not-curve_sound-2 : goal.returns-then-not-curve_sound-2
unfolding cause
returns-then-not-curve_sound-2 c =
    c.refuse_curve-then-not-curve_sound-2.ensures
    ∙ other_unsound _ _ (first_sound (goal.at.returns-then-not-curve_sound-2 c).Else-not-curve_sound)
    (sym c.curve_sound-2.ensures ∙ c.if-not-curve_sound-2.true)

second_sound : (c : Else-not-curve_sound-2) → sound (view_curve c.args.g) ≡ true
second_sound c = sym c.curve_sound-2.ensures ∙ c.if-not-curve_sound-2.false

module _ (c : Else-not-curve_sound-2) where
  first_T : T (sound (view_curve c.args.f))
  first_T = subst T (sym (first_sound c.before.before)) tt

  second_T : T (sound (view_curve c.args.g))
  second_T = subst T (sym (second_sound c)) tt

pub collected-z-requires : goal.collected-z-requires
collected-z-requires c = record {
  t = first_T c;
  t_2 = second_T c;
}

pub crossed-e-requires : goal.crossed-e-requires
crossed-e-requires c = record {
  t = first_T (goal.at.crossed-e-requires c).Else-not-curve_sound-2;
  t_2 = second_T (goal.at.crossed-e-requires c).Else-not-curve_sound-2;
}

pub rounded_degrees-r-requires : goal.rounded_degrees-r-requires
rounded_degrees-r-requires c =
    record {
      places_bound = omega (
        arith,
        c.crossed-e.ensures,
        ap size c.collected-z.ensures,
        products_size _ _ (first_T (goal.at.rounded_degrees-r-requires c).Else-not-curve_sound-2)
            (second_T (goal.at.rounded_degrees-r-requires c).Else-not-curve_sound-2),
      );
      d_nonzero = omega arith;
      d_bound = omega arith;
    }

pub returns : goal.returns
returns c =
    let f = view_curve c.args.f in
    let g = view_curve c.args.g in
    c.limited_curve.ensures
    ∙ ap (λ h. curve_answer (at_place 0 (limited_curve (view_curve h)))) c.rounded_degrees-r.ensures
    ∙ ap (λ d. curve_answer (at_place 0 (limited_curve
    (rounded d c.crossed-e.result c.collected-z.result.places)))) two_units
    ∙ ap₂ (λ n z. curve_answer (at_place 0 (limited_curve (rounded (2 * U) n z)))) c.crossed-e.ensures
    c.collected-z.ensures
    ∙ factors_sound f g (first_sound (goal.at.returns c).Else-not-curve_sound)
    (second_sound (goal.at.returns c).Else-not-curve_sound-2)
