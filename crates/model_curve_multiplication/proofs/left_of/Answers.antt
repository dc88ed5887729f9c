-- `left_of` takes the nearest times d from c.
use mathlib.Core.Path.{◌≡◌, sym, ◌∙◌, ap, ap₂}
use Prim.Native.Nat.{◌+◌, ◌*◌, ◌^◌, ◌≤◌, ◌<◌}
use native.Mathlib.Omega.{arith}
use borrow.Author.Rules.{rules}
use lib.IntN.{ℤ, nat_abs, pos, ◌-ℤ◌, ◌*ℤ◌}
use mir.Facts.{to_z-of_z}
use mir.Syntax.{w64}
use mir.Val.{to_z, of_z}
use Rattle.numbers.specs.Division.{nearest}
use Rattle.fixed.specs.MachineLaws.{answered}
use Rattle.model_curve_multiplication.specs.RoundLaws.{back_room, back_product}
use Rattle.model_curve_multiplication.proofs.left_of.Goals as goal
use Rattle.model_curve_multiplication.proofs.left_of.Goals.{After-product-back, After-signed, Start}

module _ (c : Start) where
  q_is : to_z w64 (of_z w64 c.args.q) ≡ nearest c.args.c c.args.d
  q_is = to_z-of_z c.ranges.q ∙ c.requires.q_value

  c_is : to_z w64 (of_z w64 c.args.c) ≡ c.args.c
  c_is = to_z-of_z c.ranges.c

d_is : (c : After-signed) → to_z w64 (of_z w64 c.signed.result) ≡ pos c.args.d
d_is c = answered c.signed.type_inv c.signed.ensures

pub product-back-requires : goal.product-back-requires
product-back-requires c =
    rw (
      q_is (goal.at.product-back-requires c).Start,
      d_is c,
    ) (omega (arith, back_product c.args.c c.args.d c.requires.d_nonzero, c.requires.c_bound))

back_is : (c : After-product-back)
    → to_z w64 (of_z w64 c.product-back.result) ≡ nearest c.args.c c.args.d *ℤ pos c.args.d
back_is c = answered c.product-back.type_inv (c.product-back.ensures ∙ ap₂ ◌*ℤ◌ (q_is c.before.before) (d_is c.before))

pub difference-requires : goal.difference-requires
difference-requires c =
    rw (
      c_is (goal.at.difference-requires c).Start,
      back_is c,
    ) (omega (arith, back_room c.args.c c.args.d c.requires.d_nonzero, c.requires.c_bound))

pub returns : goal.returns
returns c =
    c.magnitude.ensures
    ∙ ap nat_abs (answered c.difference.type_inv
    (c.difference.ensures ∙ ap₂ ◌-ℤ◌ (c_is (goal.at.returns c).Start) (back_is (goal.at.returns c).After-product-back)))
