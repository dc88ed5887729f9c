-- `unused_zero` goes over the coordinates above n.
use mathlib.Core.Path.{◌≡◌, refl, sym, ◌∙◌}
use Prim.Native.Nat.{◌≤◌, ◌-◌}
use native.Mathlib.Omega.{arith}
use borrow.Author.Rules.{rules}
use lib.ListN.{length, drop}
use Rattle.calculus.specs.Key.{key_width}
use Rattle.calculus.specs.Tests.{all_zero}
use Rattle.model_types.specs.ZeroTestLaws.{zero_bits, nonzero_bits}
use Rattle.model_call_tests.specs.CoordinateLaws.{zero_next, zero_fails, zero_end}
use Rattle.model_call_tests.proofs.unused_zero.Goals as goal
use Rattle.model_call_tests.proofs.unused_zero.Goals.{Start}

long : (c : Start) → length c.args.xs ≡ key_width
unfolding key_width
long c = search rules

pub loop-i-init : goal.loop-i-init
loop-i-init c = refl

pub bounds-xs-i : goal.bounds-xs-i
unfolding key_width
bounds-xs-i c = search rules

pub returns-then-x-ne0 : goal.returns-then-x-ne0
returns-then-x-ne0 c =
    sym (c.loop-i.invariant
    ∙ zero_fails c.args.xs c.loop-i.i (omega (arith, long (goal.at.returns-then-x-ne0 c).Start))
    (nonzero_bits _ c.if-x-ne0.true))

pub loop-i-preserved : goal.loop-i-preserved
unfolding key_width
loop-i-preserved c =
    c.loop-i.invariant
    ∙ zero_next c.args.xs c.loop-i.i (omega (arith, long (goal.at.loop-i-preserved c).Start))
    (zero_bits (record { sfits = c.x-1.given }) c.if-x-ne0.false)

pub returns : goal.returns
unfolding key_width
returns c =
    sym (c.loop-i.invariant ∙ zero_end c.args.xs c.loop-i.i (omega (arith, long (goal.at.returns c).Start)))
