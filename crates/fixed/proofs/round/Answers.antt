-- `round` is the rounding: the floor of z / U, or one more where what z has above it, with 1 for an odd floor, is above
-- half a unit.
use mathlib.Core.Path.{◌≡◌, ap, ◌∙◌}
use Prim.Native.Nat.{◌+◌, ◌-◌, ◌*◌, ◌/◌, ◌%◌, ◌≤◌, ◌<◌}
use native.Mathlib.Omega.{arith}
use borrow.Author.Rules.{rules}
use lib.IntN.{ℤ, pos, nat_abs, ◌+ℤ◌, ◌-ℤ◌, ◌*ℤ◌}
use mir.Facts.{to_z-of_z}
use mir.Syntax.{w64}
use mir.Val.{SFits, to_z, of_z}
use Rattle.algebra.specs.Integer.{is, is_add, is_nat, is_sub_mul, natAbs_bound, natAbs_apart}
use Rattle.numbers.specs.Division.{floor, remainder}
use Rattle.numbers.proofs.DivisionLaws.{division, remainder_lt}
use Rattle.numbers.specs.Fixed.{U, round}
use Rattle.fixed.specs.RoundedStruct.{rounded}
use Rattle.numbers.proofs.FixedLaws.{U_pos, U_even, round_is, residual_is}
use Rattle.fixed.specs.MachineLaws.{answered, fits_range, range_of}
use Rattle.numbers.proofs.NearestLaws.{nearest_down, nearest_up}
use Rattle.fixed.proofs.round.Goals as goal
use Rattle.fixed.proofs.round.Goals.{After-above_whole_units-rest, After-magnitude-odd, After-whole_units-below}

module _ (z : ℤ) where
  -- the rule by the floor and the remainder
  round_below : remainder z U + nat_abs (floor z U) % 2 ≤ U / 2 → round z ≡ floor z U
  round_below h = round_is z ∙ nearest_down z U (omega (arith, U_even))

  round_above : U / 2 < remainder z U + nat_abs (floor z U) % 2 → round z ≡ floor z U +ℤ pos 1
  round_above h = round_is z ∙ nearest_up z U (omega (arith, U_even))

  residual_above : nat_abs (z -ℤ (floor z U +ℤ pos 1) *ℤ pos U) ≡ U - remainder z U
  residual_above =
      let g = is_sub_mul (is z) (is_add (is (floor z U)) (is_nat 1)) U in
      let q = division z U U_pos in
      let l = remainder_lt z U U_pos in
      omega (arith, natAbs_apart g, natAbs_bound g (U - remainder z U) (omega arith) (omega arith))

  rounded_below : remainder z U + nat_abs (floor z U) % 2 ≤ U / 2
      → record { coefficient = floor z U; residual = remainder z U } ≡ rounded z
  unfolding remainder
  rounded_below h = rw (residual_is z, round_below h)

  rounded_above : U / 2 < remainder z U + nat_abs (floor z U) % 2
      → record { coefficient = floor z U +ℤ pos 1; residual = U - remainder z U } ≡ rounded z
  rounded_above h = rw (residual_is z, round_above h, residual_above)

  -- one more than the floor is in range, since U is not 1
  next_fits : SFits w64 z → SFits w64 (floor z U +ℤ pos 1)
  unfolding U
  next_fits f =
      let r = range_of f in
      let q = division z U U_pos in
      let l = remainder_lt z U U_pos in
      fits_range (is_add (is (floor z U)) (is_nat 1)) (omega arith) (omega arith)

-- what the three calls answer
floored : (c : After-whole_units-below) → to_z w64 (of_z w64 c.whole_units-below.result) ≡ floor c.before.args.z U
floored c =
    answered c.whole_units-below.type_inv (c.whole_units-below.ensures
    ∙ ap (λ z. floor z U) (to_z-of_z c.before.ranges.z))

rest : (c : After-above_whole_units-rest) → c.above_whole_units-rest.result ≡ remainder c.before.before.args.z U
rest c = c.above_whole_units-rest.ensures ∙ ap (λ z. remainder z U) (to_z-of_z c.before.before.ranges.z)

size : (c : After-magnitude-odd) → c.magnitude-odd.result ≡ nat_abs (floor c.before.before.before.args.z U)
size c = c.magnitude-odd.ensures ∙ ap nat_abs (floored c.before.before)

pub above_whole_units-rest-requires : goal.above_whole_units-rest-requires
above_whole_units-rest-requires c = answered c.whole_units-below.type_inv c.whole_units-below.ensures

pub overflow_add-rest : goal.overflow_add-rest
unfolding U
overflow_add-rest c =
    record { fits = omega (arith, rest c.before, remainder_lt c.before.before.before.args.z U U_pos) }

pub overflow_add-above : goal.overflow_add-above
overflow_add-above c = rw (floored c.before.before.before) (next_fits _ c.before.before.before.before.ranges.z)

pub overflow_sub-missing : goal.overflow_sub-missing
unfolding U
overflow_sub-missing c =
    omega (arith, rest c.before.before, remainder_lt c.before.before.before.before.args.z U U_pos)

pub returns-then-rest-odd-le-HALF_UNIT : goal.returns-then-rest-odd-le-HALF_UNIT
unfolding U
returns-then-rest-odd-le-HALF_UNIT c =
    rw (floored c.before.before.before, rest c.before.before)
    (rounded_below c.before.before.before.before.args.z
    (omega (arith, c.if-rest-odd-le-HALF_UNIT.true, rest c.before.before, size c.before)))

pub returns-else-rest-odd-le-HALF_UNIT : goal.returns-else-rest-odd-le-HALF_UNIT
unfolding U
returns-else-rest-odd-le-HALF_UNIT c =
    rw (
      floored c.before.before.before,
      rest c.before.before,
      to_z-of_z (next_fits _ c.before.before.before.before.ranges.z),
    )
    (rounded_above c.before.before.before.before.args.z
    (omega (arith, c.if-rest-odd-le-HALF_UNIT.false, rest c.before.before, size c.before)))
