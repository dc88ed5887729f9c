-- `add_scaled` adds c times the row, place by place, from the last one down.
use mathlib.Core.Path.{◌≡◌, ◌∙◌, ap, ap₂}
use Prim.Native.Nat.{◌+◌, ◌*◌, ◌-◌, ◌^◌, ◌<◌}
use lib.IntN.{ℤ, nat_abs, pos, ◌+ℤ◌, ◌*ℤ◌}
use lib.ListN.{length, get_or}
use mir.Facts.{to_z-of_z}
use mir.Syntax.{w64}
use mir.Val.{to_z, of_z}
use Rattle.fixed.specs.MachineLaws.{answered}
use Rattle.chebyshev.specs.Coefficients.{Row, size}
use Rattle.model_curve_rows.specs.SmallRowsLaws.{scaling_first, scaling_iteration}
use Rattle.model_curve_rows.specs.SmallRowsLaws.{place_inside, part_room, sum_room}
use Rattle.model_curve_rows.proofs.add_scaled.Goals as goal
use Rattle.model_curve_rows.proofs.add_scaled.Goals.{After-product-arg-1, After-product-part, After-sum-arg-1, In-loop-j, Start}

module _ (c : Start) where
  -- the factor, as the loop holds it
  abbrev C : ℤ
  C = to_z w64 (of_z w64 c.args.c)

  abbrev R : Row
  R = c.args.row.now

  abbrev Z : Row
  Z = c.args.total.now

  C_is : C ≡ c.args.c
  C_is = to_z-of_z c.ranges.c

  long : length Z ≡ 16
  long = c.requires.total_len

  whole : length R ≡ 16
  whole = c.requires.row_len

  small : nat_abs C * size R + size Z < 2 ^ 63
  small = rw C_is c.requires.total_bound

pub loop-j-init : goal.loop-j-init
loop-j-init c = scaling_first _ _ _ (long c) (whole c) (small c)

-- the place at hand
module _ (c : In-loop-j) where
  abbrev B : ℤ
  B = get_or (R c.before.before) (c.loop-j.j - 1) (pos 0)

  within : c.loop-j.j - 1 < 16
  within = place_inside _ _ _ (long c.before.before) (whole c.before.before) (small c.before.before) _ _
      c.loop-j.invariant c.loop-j-test.true

second_is : (c : After-product-arg-1) → to_z w64 (of_z w64 (B c.before)) ≡ B c.before
second_is c = to_z-of_z {w = w64} (record { sfits = c.product-arg-1.given })

pub product-part-requires : goal.product-part-requires
product-part-requires c =
    rw (second_is c)
    (part_room _ _ _ (long (goal.at.product-part-requires c).Start) (whole (goal.at.product-part-requires c).Start)
    (small (goal.at.product-part-requires c).Start) _ _ c.loop-j.invariant c.loop-j-test.true)

module _ (c : After-product-part) where
  part_is : to_z w64 (of_z w64 c.product-part.result) ≡ C c.before.before.before.before *ℤ B c.before.before
  part_is = answered c.product-part.type_inv
      (c.product-part.ensures ∙ ap (λ z. C c.before.before.before.before *ℤ z) (second_is c.before))

there_is : (c : After-sum-arg-1)
    → let z = get_or c.loop-j.total (c.loop-j.j - 1) (pos 0) in to_z w64 (of_z w64 z) ≡ z
there_is c = to_z-of_z {w = w64} (record { sfits = c.sum-arg-1.given })

pub sum-x-requires : goal.sum-x-requires
sum-x-requires c =
    rw (part_is (goal.at.sum-x-requires c).After-product-part, there_is c)
    (sum_room _ _ _ (long (goal.at.sum-x-requires c).Start) (whole (goal.at.sum-x-requires c).Start)
    (small (goal.at.sum-x-requires c).Start) _ _ c.loop-j.invariant c.loop-j-test.true)

pub loop-j-preserved : goal.loop-j-preserved
loop-j-preserved c =
    scaling_iteration _ _ _ (long (goal.at.loop-j-preserved c).Start) (whole (goal.at.loop-j-preserved c).Start)
    (small (goal.at.loop-j-preserved c).Start) _ _ c.loop-j.invariant c.loop-j-test.true _
    (answered c.sum-x.type_inv (c.sum-x.ensures ∙ ap₂ ◌+ℤ◌ (part_is (goal.at.loop-j-preserved c).After-product-part)
    (there_is (goal.at.loop-j-preserved c).After-sum-arg-1)))
