-- `above_whole_units` is the remainder of z by U, for every z.
use mathlib.Core.Path.{◌≡◌, ◌∙◌}
use native.Mathlib.Omega.{arith}
use borrow.Author.Rules.{rules}
use lib.IntN.{ℤ, pos, ◌-ℤ◌, ◌*ℤ◌}
use mir.Facts.{to_z-of_z}
use mir.Syntax.{w64}
use mir.Val.{SFits, to_z, of_z}
use Rattle.algebra.specs.Integer.{is, is_mul, is_nat}
use Rattle.numbers.specs.Division.{floor, remainder}
use Rattle.numbers.proofs.DivisionLaws.{division, remainder_is, remainder_lt}
use Rattle.numbers.specs.Fixed.{U}
use Rattle.numbers.proofs.FixedLaws.{U_pos}
use Rattle.fixed.specs.MachineLaws.{fits_range, range_of, fits_size}
use Rattle.fixed.proofs.above_whole_units.Goals as goal
use Rattle.fixed.proofs.above_whole_units.Goals.{Start}

-- the least number is a multiple of U, so the largest multiple up to z is in range
product_fits : (z : ℤ) → SFits w64 z → SFits w64 (floor z U *ℤ pos U)
unfolding U
product_fits z f =
    let r = range_of f in
    let q = division z U U_pos in
    let l = remainder_lt z U U_pos in
    fits_range (is_mul (is (floor z U)) (is_nat U)) (omega arith) (omega arith)

-- what the code subtracts leaves the remainder
left : (c : Start)
    → to_z w64 (of_z w64 c.args.z) -ℤ to_z w64 (of_z w64 (to_z w64 (of_z w64 c.args.units) *ℤ pos U))
    ≡ pos (remainder c.args.z U)
left c =
    let f = c.ranges.z in
    rw (to_z-of_z f, to_z-of_z c.ranges.units, c.requires, to_z-of_z (product_fits _ f)) (remainder_is c.args.z U U_pos)

pub overflow_mul-result : goal.overflow_mul-result
unfolding U
overflow_mul-result c = rw (to_z-of_z c.ranges.units, c.requires) (product_fits c.args.z c.ranges.z)

pub overflow_sub-result : goal.overflow_sub-result
unfolding U
overflow_sub-result c = rw (left c) (fits_size (omega (arith, remainder_lt c.args.z U U_pos)))

pub overflow_cast-result-2 : goal.overflow_cast-result-2
unfolding U
overflow_cast-result-2 c = rw (to_z-of_z (overflow_sub-result c) ∙ left c) (
  tt,
  omega (arith, remainder_lt c.args.z U U_pos),
)

pub returns : goal.returns
unfolding U
returns c = rw (to_z-of_z (overflow_sub-result c) ∙ left c)
