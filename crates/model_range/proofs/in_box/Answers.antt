-- `in_box` compares the ends of the range with the unit.
use mathlib.Core.Path.{◌≡◌, sym, ◌∙◌, ap, ap₂}
use native.Mathlib.Omega.{arith}
use lib.IntN.{pos, neg_ℤ}
use lib.Signed.{le_z}
use mir.Facts.{to_z-of_z}
use mir.Syntax.{w64}
use mir.Val.{to_z, of_z}
use Rattle.numbers.specs.Fixed.{U}
use Rattle.numbers.proofs.FixedLaws.{U_within, span_fits}
use Rattle.fixed.specs.MachineLaws.{answered}
use Rattle.calculus.specs.Operations.{range, range_in_box}
use Rattle.model_types.specs.ModelStruct.{view, bounds}
use Rattle.model_range.proofs.in_box.Goals as goal
use Rattle.model_range.proofs.in_box.Goals.{After-range_of-ends, After-struct_told-1, After-unit-unit}

unit_is : (c : After-unit-unit) → to_z w64 (of_z w64 c.unit-unit.result) ≡ pos U
unit_is c = answered c.unit-unit.type_inv c.unit-unit.ensures

-- the ends as they are read
module _ (c : After-range_of-ends) where
  low_is : c.range_of-ends.result.low ≡ (range (view c.args.m)).low
  unfolding bounds
  low_is = ap (λ b. b.low) c.range_of-ends.ensures

  high_is : c.range_of-ends.result.high ≡ (range (view c.args.m)).high
  unfolding bounds
  high_is = ap (λ b. b.high) c.range_of-ends.ensures

-- the first comparison
first : (c : After-struct_told-1)
    → le_z (to_z w64 (of_z w64 c.negated.result))
    (to_z w64 (of_z w64 c.range_of-ends.result.low))
    ≡ le_z (neg_ℤ (pos U)) (range (view c.args.m)).low
first c =
    ap₂ le_z (answered c.negated.type_inv (c.negated.ensures ∙ ap neg_ℤ (unit_is c.before.before.before.before)))
    (to_z-of_z {w = w64} (record { sfits = c.struct_told-1.given.0.1 }) ∙ low_is c.before.before.before.before.before)

pub negated-requires : goal.negated-requires
negated-requires c = rw (unit_is c) (omega (arith, U_within, span_fits))

pub returns-then-negated-ends : goal.returns-then-negated-ends
unfolding range_in_box
returns-then-negated-ends c =
    rw (
      to_z-of_z {w = w64} (record { sfits = c.struct_told-then-negated-ends-1.given.1.0.1 })
          ∙ high_is (goal.at.returns-then-negated-ends c).After-range_of-ends,
      unit_is (goal.at.returns-then-negated-ends c).After-unit-unit,
      sym (first (goal.at.returns-then-negated-ends c).After-struct_told-1) ∙ c.if-negated-ends.true,
    )

pub returns-else-negated-ends : goal.returns-else-negated-ends
unfolding range_in_box
returns-else-negated-ends c = rw (
  first (goal.at.returns-else-negated-ends c).After-struct_told-1,
  sym (first (goal.at.returns-else-negated-ends c).After-struct_told-1) ∙ c.if-negated-ends.false,
)
