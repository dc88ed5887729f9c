-- `add_products` adds each product at its two degrees, from the last one down.
use mathlib.Core.Path.{◌≡◌, sym, ◌∙◌, ap, ap₂}
use Prim.Native.Nat.{ℕ, ◌+◌, ◌*◌, ◌-◌, ◌^◌, ◌<◌}
use native.Mathlib.Omega.{arith}
use borrow.Author.Rules.{rules}
use lib.IntN.{ℤ, nat_abs, pos, ◌+ℤ◌, ◌*ℤ◌}
use lib.ListN.{length, get_or, set}
use mir.Facts.{to_z-of_z}
use mir.Syntax.{w64}
use mir.Val.{to_z, of_z}
use Rattle.fixed.specs.MachineLaws.{answered}
use Rattle.chebyshev.specs.Coefficients.{Row, size, products_of}
use Rattle.model_curve_multiplication.specs.CollectLaws.{Adding, adding_first, adding_iteration, adding_end}
use Rattle.model_curve_multiplication.specs.CollectLaws.{inside, product_room, near_inside, near_room, far_room}
use Rattle.model_curve_multiplication.proofs.add_products.Goals as goal
use Rattle.model_curve_multiplication.proofs.add_products.Goals.{After-apart-near, After-product-arg-1, After-product-v, After-sum-arg-1, After-sum-arg-in-loop-j-1, After-sum-x, In-loop-j, Start}

module _ (c : Start) where
  -- the coefficient of the first factor, as the loop holds it
  abbrev A : ℤ
  A = to_z w64 (of_z w64 c.args.a)

  abbrev G : Row
  G = c.args.g.now

  abbrev Z : Row
  Z = c.args.z.now

  A_is : A ≡ c.args.a
  A_is = to_z-of_z c.ranges.a

  whole : length G ≡ 16
  whole = c.requires.g_len

  long : length Z ≡ 31
  long = c.requires.z_len

  small : 2 * (nat_abs A * size G) + size Z < 2 ^ 63
  small = rw A_is c.requires.z_bound

  low : c.args.i < 16
  low = c.requires.i_bound

pub loop-j-init : goal.loop-j-init
loop-j-init c = adding_first _ _ _ _ (low c) (whole c) (small c) (long c)

-- the degree at hand
module _ (c : In-loop-j) where
  abbrev degree : ℕ
  degree = c.loop-j.j - 1

  abbrev B : ℤ
  B = get_or (G c.before.before) degree (pos 0)

  within : degree < 16
  within = inside _ _ _ _ (low c.before.before) (whole c.before.before) (small c.before.before) _ _ c.loop-j.invariant
      c.loop-j-test.true

pub offset_bounds-g-j : goal.offset_bounds-g-j
offset_bounds-g-j c = omega (arith, within c)

pub bounds-g-j : goal.bounds-g-j
bounds-g-j c = within c

second_is : (c : After-product-arg-1) → to_z w64 (of_z w64 (B c.before)) ≡ B c.before
second_is c = to_z-of_z {w = w64} (record { sfits = c.product-arg-1.given })

pub product-v-requires : goal.product-v-requires
product-v-requires c =
    rw (second_is c)
    (product_room _ _ _ _ (low (goal.at.product-v-requires c).Start) (whole (goal.at.product-v-requires c).Start)
    (small (goal.at.product-v-requires c).Start) _ _ c.loop-j.invariant c.loop-j-test.true)

module _ (c : After-product-v) where
  abbrev v : ℤ
  v = A c.before.before.before.before *ℤ B c.before.before

  v_is : to_z w64 (of_z w64 c.product-v.result) ≡ v
  v_is = answered c.product-v.type_inv
      (c.product-v.ensures ∙ ap (λ z. A c.before.before.before.before *ℤ z) (second_is c.before))

pub overflow_add-far : goal.overflow_add-far
overflow_add-far c = omega (
  arith,
  low (goal.at.overflow_add-far c).Start,
  within (goal.at.overflow_add-far c).In-loop-j,
)

near_in : (c : After-apart-near) → c.apart-near.result < 31
near_in c =
    near_inside _ _ _ _ (low c.before.before.before.before.before) (whole c.before.before.before.before.before)
    (small c.before.before.before.before.before) _ _ c.loop-j.invariant c.loop-j-test.true _
    c.apart-near.ensures

pub offset_bounds-z-near : goal.offset_bounds-z-near
offset_bounds-z-near c = omega (arith, near_in c)

pub bounds-z-near : goal.bounds-z-near
bounds-z-near c = near_in c

near_is : (c : After-sum-arg-1)
    → let z = get_or c.loop-j.z c.apart-near.result (pos 0) in to_z w64 (of_z w64 z) ≡ z
near_is c = to_z-of_z {w = w64} (record { sfits = c.sum-arg-1.given })

pub sum-x-requires : goal.sum-x-requires
sum-x-requires c =
    rw (v_is (goal.at.sum-x-requires c).After-product-v, near_is c)
    (near_room _ _ _ _ (low (goal.at.sum-x-requires c).Start) (whole (goal.at.sum-x-requires c).Start)
    (small (goal.at.sum-x-requires c).Start) _ _ c.loop-j.invariant c.loop-j-test.true _
    c.apart-near.ensures)

x_is : (c : After-sum-x)
    → to_z w64 (of_z w64 c.sum-x.result)
    ≡ v c.before.before.before +ℤ get_or c.loop-j.z c.apart-near.result (pos 0)
x_is c = answered c.sum-x.type_inv
    (c.sum-x.ensures ∙ ap₂ ◌+ℤ◌ (v_is c.before.before.before) (near_is c.before))

pub offset_bounds-z-near-in-loop-j : goal.offset_bounds-z-near-in-loop-j
offset_bounds-z-near-in-loop-j c = omega (arith, near_in (goal.at.offset_bounds-z-near-in-loop-j c).After-apart-near)

pub bounds-z-near-in-loop-j : goal.bounds-z-near-in-loop-j
bounds-z-near-in-loop-j c = near_in (goal.at.bounds-z-near-in-loop-j c).After-apart-near

far_in : (c : In-loop-j) → c.args.i + degree c < 31
far_in c = omega (arith, low c.before.before, within c)

pub offset_bounds-z-far : goal.offset_bounds-z-far
offset_bounds-z-far c = omega (arith, far_in (goal.at.offset_bounds-z-far c).In-loop-j)

pub bounds-z-far : goal.bounds-z-far
bounds-z-far c = far_in (goal.at.bounds-z-far c).In-loop-j

far_is : (c : After-sum-arg-in-loop-j-1)
    → let z = get_or (set c.loop-j.z c.apart-near.result (to_z w64 (of_z w64 c.sum-x.result)))
    (c.args.i + degree c.before.before.before.before.before.before) (pos 0) in
    to_z w64 (of_z w64 z) ≡ z
far_is c = to_z-of_z {w = w64} (record { sfits = c.sum-arg-in-loop-j-1.given })

pub sum-y-requires : goal.sum-y-requires
sum-y-requires c =
    rw (v_is (goal.at.sum-y-requires c).After-product-v, far_is c)
    (far_room _ _ _ _ (low (goal.at.sum-y-requires c).Start) (whole (goal.at.sum-y-requires c).Start)
    (small (goal.at.sum-y-requires c).Start) _ _ c.loop-j.invariant c.loop-j-test.true _
    c.apart-near.ensures _ (x_is (goal.at.sum-y-requires c).After-sum-x))

pub offset_bounds-z-far-in-loop-j : goal.offset_bounds-z-far-in-loop-j
offset_bounds-z-far-in-loop-j c = omega (arith, far_in (goal.at.offset_bounds-z-far-in-loop-j c).In-loop-j)

pub bounds-z-far-in-loop-j : goal.bounds-z-far-in-loop-j
bounds-z-far-in-loop-j c = far_in (goal.at.bounds-z-far-in-loop-j c).In-loop-j

pub loop-j-preserved : goal.loop-j-preserved
loop-j-preserved c =
    adding_iteration _ _ _ _ (low (goal.at.loop-j-preserved c).Start) (whole (goal.at.loop-j-preserved c).Start)
    (small (goal.at.loop-j-preserved c).Start) _ _ c.loop-j.invariant c.loop-j-test.true _
    c.apart-near.ensures _ (x_is (goal.at.loop-j-preserved c).After-sum-x) _
    (answered c.sum-y.type_inv (c.sum-y.ensures ∙ ap₂ ◌+ℤ◌ (v_is (goal.at.loop-j-preserved c).After-product-v)
    (far_is (goal.at.loop-j-preserved c).After-sum-arg-in-loop-j-1)))

pub returns : goal.returns
returns c =
    adding_end _ _ _ _ (low (goal.at.returns c).Start) (whole (goal.at.returns c).Start)
    (small (goal.at.returns c).Start) _ _ c.loop-j.invariant c.loop-j-test.false
    ∙ ap (λ a. products_of c.args.i a 0 (G (goal.at.returns c).Start) (Z (goal.at.returns c).Start))
    (A_is (goal.at.returns c).Start)
