-- `range` tests the curve, then sets the ends around the constant coefficient.
use mathlib.Core.Path.{◌≡◌, sym, ◌∙◌, ap, ap₂, subst}
use mathlib.Core.Bool.{true}
use Prim.Native.Nat.{◌+◌, ◌^◌, ◌<◌}
use native.Mathlib.Omega.{arith}
use borrow.Author.Rules.{rules}
use borrow.Author.Tests.{not-true, not-false}
use lib.Dec.{T}
use lib.IntN.{nat_abs, pos, ◌+ℤ◌, ◌-ℤ◌}
use lib.ListN.{length, get_or}
use mir.Facts.{to_z-of_z}
use mir.Syntax.{w64}
use mir.Val.{to_z, of_z}
use Rattle.fixed.specs.MachineLaws.{answered}
use Rattle.chebyshev.specs.Curve.{sound}
use Rattle.chebyshev.specs.CurveOperations.{variation, constant_part, range}
use Rattle.model_types.specs.ModelStruct.{cause, bounds}
use Rattle.model_types.specs.CurveStruct.{view_curve}
use Rattle.model_curve_range.specs.CurveRangeLaws.{range_unsound, range_sound, variation_small}
use Rattle.model_curve_range.proofs.range.Goals as goal
use Rattle.model_curve_range.proofs.range.Goals.{After-signed-around, After-variation_of, Else-not-curve_sound, Start}

-- src/lib.rt:33:9
pub returns-then-not-curve_sound : goal.returns-then-not-curve_sound
unfolding cause
returns-then-not-curve_sound c =
    c.refuse_bounds.ensures ∙ range_unsound _ (sym c.curve_sound.ensures ∙ c.if-not-curve_sound.true)

is_sound : (c : Else-not-curve_sound) → sound (view_curve c.args.c) ≡ true
is_sound c = sym c.curve_sound.ensures ∙ c.if-not-curve_sound.false

whole : (c : Start) → length c.args.c.coefficients ≡ 16
whole c = search rules

-- src/lib.rt:36:32
pub variation_of-requires : goal.variation_of-requires
variation_of-requires c = subst T (sym (is_sound (goal.at.variation_of-requires c).Else-not-curve_sound)) tt

module _ (c : After-variation_of) where
  sound_here : T (sound (view_curve c.args.c))
  sound_here = subst T (sym (is_sound c.before.before)) tt

  room : nat_abs (constant_part (view_curve c.args.c)) + variation (view_curve c.args.c) < 2 ^ 31
  room = variation_small _ sound_here (whole c.before.before.before.before)

  middle_is : to_z w64 (of_z w64 (get_or c.args.c.coefficients 0 (pos 0)))
      ≡ constant_part (view_curve c.args.c)
  unfolding constant_part
  middle_is = to_z-of_z {w = w64} (record { sfits = c.middle-1.given })

-- src/lib.rt:36:9
pub signed-around-requires : goal.signed-around-requires
signed-around-requires c = omega (arith, c.variation_of.ensures, room c)

around_is : (c : After-signed-around)
    → to_z w64 (of_z w64 c.signed-around.result) ≡ pos (variation (view_curve c.args.c))
around_is c = answered c.signed-around.type_inv (c.signed-around.ensures ∙ ap pos c.variation_of.ensures)

-- src/lib.rt:38:14
pub difference-requires : goal.difference-requires
difference-requires c = rw (
  middle_is (goal.at.difference-requires c).After-variation_of,
  around_is c,
) (omega (arith, room (goal.at.difference-requires c).After-variation_of))

-- src/lib.rt:39:15
pub sum-requires : goal.sum-requires
sum-requires c = rw (
  middle_is (goal.at.sum-requires c).After-variation_of,
  around_is (goal.at.sum-requires c).After-signed-around,
)
    (omega (arith, room (goal.at.sum-requires c).After-variation_of))

-- src/lib.rt:29:1
pub returns : goal.returns
unfolding range bounds
returns c =
    let m = middle_is (goal.at.returns c).After-variation_of in
    let a = around_is (goal.at.returns c).After-signed-around in
    rw (
      answered c.difference.type_inv (c.difference.ensures ∙ ap₂ ◌-ℤ◌ m a),
      answered c.sum.type_inv (c.sum.ensures ∙ ap₂ ◌+ℤ◌ m a),
    ) (range_sound _ (is_sound (goal.at.returns c).Else-not-curve_sound))
