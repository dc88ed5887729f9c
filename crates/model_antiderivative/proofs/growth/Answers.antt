-- `growth` is what a term adds to the radius.
use mathlib.Core.Path.{◌≡◌, sym, ◌∙◌, ap, ap₂}
use Prim.Native.Nat.{◌+◌, ◌%◌}
use borrow.Author.Tests.{eq-eqb, ne_eqb}
use native.Mathlib.Omega.{arith}
use lib.IntN.{nat_abs}
use mir.Facts.{to_z-of_z}
use Rattle.numbers.specs.Division.{divided_up}
use Rattle.calculus_laws.specs.SumLaws.{if_so}
use Rattle.model_keys.specs.Keys.{key_exponent}
use Rattle.model_antiderivative.specs.Antiderivatives.{key_rounding, key_growth}
use Rattle.model_antiderivative.proofs.growth.Goals as goal
use Rattle.model_antiderivative.proofs.growth.Goals.{After-stays}

pub new_exponent-k-requires : goal.new_exponent-k-requires
new_exponent-k-requires c = c.requires

pub divided_up-requires : goal.divided_up-requires
divided_up-requires c = omega (arith, c.new_exponent-k.ensures)

-- the size, the divisor, and the test
module _ (c : After-stays) where
  size_is : c.magnitude-size.result ≡ nat_abs c.args.coefficient
  size_is = c.magnitude-size.ensures ∙ ap nat_abs (to_z-of_z c.ranges.coefficient)

  divisor_is : c.new_exponent-k.result ≡ key_exponent c.args.i c.args.key + 1
  divisor_is = c.new_exponent-k.ensures

  rest_is : c.magnitude-size.result % c.new_exponent-k.result
      ≡ nat_abs c.args.coefficient % (key_exponent c.args.i c.args.key + 1)
  rest_is = ap₂ ◌%◌ size_is divisor_is

pub returns-then-not-stays : goal.returns-then-not-stays
unfolding key_growth key_rounding if_so
returns-then-not-stays c =
    c.divided_up.ensures ∙ ap₂ divided_up (size_is (goal.at.returns-then-not-stays c).After-stays)
    (divisor_is (goal.at.returns-then-not-stays c).After-stays)
    ∙ sym (rw (sym c.stays.ensures ∙ c.if-not-stays.true) (omega arith))

pub nonzero_rem-size : goal.nonzero_rem-size
nonzero_rem-size c = omega (arith, c.new_exponent-k.ensures)

pub returns-then-size-k-ne0 : goal.returns-then-size-k-ne0
unfolding key_growth key_rounding if_so
returns-then-size-k-ne0 c =
    rw (
      sym c.stays.ensures ∙ c.if-not-stays.false,
      ne_eqb _ 0 (λ e. c.if-size-k-ne0.true (rest_is (goal.at.returns-then-size-k-ne0 c).After-stays ∙ e)),
    )

pub returns-else-size-k-ne0 : goal.returns-else-size-k-ne0
unfolding key_growth key_rounding if_so
returns-else-size-k-ne0 c =
    rw (
      sym c.stays.ensures ∙ c.if-not-stays.false,
      eq-eqb _ 0 (sym (rest_is (goal.at.returns-else-size-k-ne0 c).After-stays) ∙ c.if-size-k-ne0.false),
    )
