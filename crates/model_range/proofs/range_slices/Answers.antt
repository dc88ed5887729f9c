-- `range_slices` counts the terms in one walk; all its sums are within the span.
use mathlib.Core.Path.{◌≡◌, ◌∙◌, ap, ap₂}
use Prim.Native.Nat.{◌+◌, ◌<◌}
use native.Mathlib.Omega.{arith}
use lib.IntN.{ℤ, pos, ◌+ℤ◌, ◌-ℤ◌}
use lib.ListN.{get_or}
use mir.Facts.{to_z-of_z}
use mir.Syntax.{w64}
use mir.Val.{to_z, of_z}
use Rattle.fixed.specs.MachineLaws.{answered}
use Rattle.calculus.specs.Model.{Model}
use Rattle.calculus.specs.Operations.{constant_part, below, above, range}
use Rattle.model_types.specs.ModelStruct.{view, bounds}
use Rattle.model_slices.specs.HeldModels.{held}
use Rattle.model_places.specs.LeftModels.{Lies}
use Rattle.model_range.specs.KeyRange.{key_steady, key_fall, key_rise}
use Rattle.model_range.specs.RangeLoopLaws.{Counted}
use Rattle.model_range.specs.RangePassLaws.{pass_first, pass_iteration, steady_room, fall_room, rise_room}
use Rattle.model_range.specs.RangePassLaws.{middle_end, below_end, above_end, below_fits, above_fits}
use Rattle.model_range.proofs.range_slices.Goals as goal
use Rattle.model_range.proofs.range_slices.Goals.{After-c-1, After-fall-below, After-loop-i, After-rise-above, After-signed-down, After-signed-up, After-steady, Start}

pub loop-i-init : goal.loop-i-init
loop-i-init c w = pass_first w

-- ---- one iteration: the term at hand
module _ (c : After-c-1) where
  -- the sums before it
  abbrev sums : Counted (held c.requires.vars c.args.count c.args.radius c.args.keys.now
      c.args.coefficients.now) (to_z w64 c.loop-i.middle-bits) c.loop-i.below c.loop-i.above
      c.loop-i.i
  sums = c.loop-i.invariant c.requires

  inside : c.loop-i.i < c.args.count
  inside = omega arith

  abbrev coefficient : ℤ
  coefficient = get_or c.args.coefficients.now c.loop-i.i (pos 0)

  read_back : to_z w64 (of_z w64 coefficient) ≡ coefficient
  read_back = to_z-of_z {w = w64} (record { sfits = c.c-1.given })

-- what the three functions give of it
steady_is : (c : After-steady) → to_z w64 (of_z w64 c.steady.result)
    ≡ key_steady (get_or c.args.keys.now c.loop-i.i 0) (coefficient (goal.at.sum-middle-requires c).After-c-1)
steady_is c = answered c.steady.type_inv (c.steady.ensures
    ∙ ap (key_steady _) (read_back (goal.at.sum-middle-requires c).After-c-1))

fall_is : (c : After-fall-below) → c.fall-below.result ≡ key_fall (get_or c.args.keys.now c.loop-i.i 0)
    (coefficient (goal.at.overflow_add-below c).After-c-1)
fall_is c = c.fall-below.ensures ∙ ap (key_fall _) (read_back (goal.at.overflow_add-below c).After-c-1)

rise_is : (c : After-rise-above) → c.rise-above.result ≡ key_rise (get_or c.args.keys.now c.loop-i.i 0)
    (coefficient (goal.at.overflow_add-above c).After-c-1)
rise_is c = c.rise-above.ensures ∙ ap (key_rise _) (read_back (goal.at.overflow_add-above c).After-c-1)

pub sum-middle-requires : goal.sum-middle-requires
sum-middle-requires c =
    rw (steady_is c) (steady_room c.requires (sums (goal.at.sum-middle-requires c).After-c-1)
    (inside (goal.at.sum-middle-requires c).After-c-1))

pub overflow_add-below : goal.overflow_add-below
overflow_add-below c =
    omega (
      arith,
      fall_is c,
      fall_room c.requires (sums (goal.at.overflow_add-below c).After-c-1)
          (inside (goal.at.overflow_add-below c).After-c-1),
    )

pub overflow_add-above : goal.overflow_add-above
overflow_add-above c =
    omega (
      arith,
      rise_is c,
      rise_room c.requires (sums (goal.at.overflow_add-above c).After-c-1)
          (inside (goal.at.overflow_add-above c).After-c-1),
    )

pub loop-i-preserved : goal.loop-i-preserved
loop-i-preserved c w =
    pass_iteration w (c.loop-i.invariant w) (inside (goal.at.loop-i-preserved c).After-c-1)
    (answered c.sum-middle.type_inv
    (c.sum-middle.ensures ∙ ap (λ z. to_z w64 c.loop-i.middle-bits +ℤ z)
    (steady_is (goal.at.loop-i-preserved c).After-steady)))
    (ap (λ x. c.loop-i.below + x) (fall_is (goal.at.loop-i-preserved c).After-fall-below))
    (ap (λ x. c.loop-i.above + x) (rise_is c))

-- ---- the ends, of any model that the slices hold
module _ (c : After-loop-i) where
  module _ (w : Lies c.args.count c.args.radius c.args.keys.now
      c.args.coefficients.now) where
    abbrev seen : Model
    seen = view (held w.vars c.args.count c.args.radius c.args.keys.now
        c.args.coefficients.now)

    middle_is : to_z w64 c.loop-i.middle-bits ≡ constant_part seen
    middle_is = middle_end w (c.loop-i.invariant w) (omega arith)

    below_is : c.loop-i.below + c.args.radius ≡ below seen
    below_is = below_end w (c.loop-i.invariant w) (omega arith)

    above_is : c.loop-i.above + c.args.radius ≡ above seen
    above_is = above_end w (c.loop-i.invariant w) (omega arith)

down_is : (c : After-signed-down)
    (w : Lies c.args.count c.args.radius c.args.keys.now
    c.args.coefficients.now)
    → to_z w64 (of_z w64 c.signed-down.result) ≡ pos (below (seen (goal.at.overflow_add-above-2 c).After-loop-i w))
down_is c w = answered c.signed-down.type_inv (c.signed-down.ensures
    ∙ ap pos (below_is (goal.at.overflow_add-above-2 c).After-loop-i w))

up_is : (c : After-signed-up)
    (w : Lies c.args.count c.args.radius
    c.args.keys.now c.args.coefficients.now)
    → to_z w64 (of_z w64 c.signed-up.result) ≡ pos (above (seen (goal.at.difference-requires c).After-loop-i w))
up_is c w = answered c.signed-up.type_inv (c.signed-up.ensures
    ∙ ap pos (above_is (goal.at.difference-requires c).After-loop-i w))

pub overflow_add-below-2 : goal.overflow_add-below-2
overflow_add-below-2 c = let w = c.requires in omega (arith, below_is c w, below_fits w)

pub signed-down-requires : goal.signed-down-requires
signed-down-requires c = let w = c.requires in omega (arith, below_is c w, below_fits w)

pub overflow_add-above-2 : goal.overflow_add-above-2
overflow_add-above-2 c = let w = c.requires in omega (
  arith,
  above_is (goal.at.overflow_add-above-2 c).After-loop-i w,
  above_fits w,
)

pub signed-up-requires : goal.signed-up-requires
signed-up-requires c = let w = c.requires in omega (
  arith,
  above_is (goal.at.signed-up-requires c).After-loop-i w,
  above_fits w,
)

pub difference-requires : goal.difference-requires
difference-requires c =
    let w = c.requires in
    rw (
      middle_is (goal.at.difference-requires c).After-loop-i w,
      down_is (goal.at.difference-requires c).After-signed-down w,
    ) (below_fits w)

pub sum-requires : goal.sum-requires
sum-requires c =
    let w = c.requires in rw (
      middle_is (goal.at.sum-requires c).After-loop-i w,
      up_is (goal.at.sum-requires c).After-signed-up w,
    ) (above_fits w)

pub returns : goal.returns
unfolding range bounds
returns c w =
    let m = middle_is (goal.at.returns c).After-loop-i w in
    rw (
      answered c.difference.type_inv (c.difference.ensures
          ∙ ap₂ ◌-ℤ◌ m (down_is (goal.at.returns c).After-signed-down w)),
      answered c.sum.type_inv (c.sum.ensures ∙ ap₂ ◌+ℤ◌ m (up_is (goal.at.returns c).After-signed-up w)),
    )
