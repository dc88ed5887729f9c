-- `used_within` goes over the first n coordinates.
use mathlib.Core.Path.{◌≡◌, refl, sym, ◌∙◌, ap}
use Prim.Native.Nat.{◌≤◌, ◌-◌}
use native.Mathlib.Omega.{arith}
use borrow.Author.Rules.{rules}
use borrow.Author.Tests.{not-true, not-false}
use lib.Dec.{leb}
use lib.IntN.{ℤ, pos, nat_abs}
use lib.ListN.{length, take, drop, get_or}
use mir.Facts.{to_z-of_z}
use mir.Syntax.{w64}
use mir.Val.{to_z, of_z}
use Rattle.numbers.specs.Fixed.{U}
use Rattle.calculus.specs.Key.{key_width}
use Rattle.calculus.specs.Tests.{all_in_unit}
use Rattle.model_call_tests.specs.CoordinateLaws.{unit_next, unit_fails, unit_end}
use Rattle.model_call_tests.proofs.used_within.Goals as goal
use Rattle.model_call_tests.proofs.used_within.Goals.{After-within_unit, Start}

long : (c : Start) → length c.args.xs ≡ key_width
unfolding key_width
long c = search rules

pub loop-i-init : goal.loop-i-init
loop-i-init c = refl

pub overflow_cast-x : goal.overflow_cast-x
overflow_cast-x c = omega arith

pub offset_bounds-xs-i : goal.offset_bounds-xs-i
offset_bounds-xs-i c = omega arith

pub bounds-xs-i : goal.bounds-xs-i
unfolding key_width
bounds-xs-i c = omega arith

-- the answer of the test is of the coordinate
module _ (c : After-within_unit) where
  abbrev coordinate : ℤ
  coordinate = get_or c.args.xs c.loop-i.i (pos 0)

  read_back : to_z w64 (of_z w64 coordinate) ≡ coordinate
  read_back = to_z-of_z {w = w64} (record { sfits = c.x-1.given })

  tested : c.within_unit.result ≡ leb (nat_abs coordinate) U
  tested = c.within_unit.ensures ∙ ap (λ z. leb (nat_abs z) U) read_back

pub returns-then-not-within_unit : goal.returns-then-not-within_unit
returns-then-not-within_unit c =
    sym (c.loop-i.invariant
    ∙ unit_fails c.args.xs c.args.n c.loop-i.i (omega (arith, long (goal.at.returns-then-not-within_unit c).Start))
    (omega arith)
    (sym (tested (goal.at.returns-then-not-within_unit c).After-within_unit) ∙ c.if-not-within_unit.true))

pub loop-i-preserved : goal.loop-i-preserved
loop-i-preserved c =
    c.loop-i.invariant
    ∙ unit_next c.args.xs c.args.n c.loop-i.i (omega (arith, long (goal.at.loop-i-preserved c).Start)) (omega arith)
    (sym (tested (goal.at.loop-i-preserved c).After-within_unit) ∙ c.if-not-within_unit.false)

pub returns : goal.returns
returns c =
    sym (c.loop-i.invariant
    ∙ unit_end c.args.xs c.args.n c.loop-i.i (omega (arith, long (goal.at.returns c).Start)) (omega arith))
