-- `unused_zero` goes over the coordinates above n.
use mathlib.Core.Path.{◌≡◌, refl, sym, ◌∙◌}
use Prim.Native.Nat.{◌≤◌, ◌-◌}
use native.Mathlib.Omega.{arith}
use borrow.Author.Rules.{rules}
use lib.ListN.{length, drop}
use Rattle.calculus.specs.Key.{key_width}
use Rattle.calculus.specs.Tests.{all_zero}
use Rattle.model_types.specs.ZeroTestLaws.{zero_bits, nonzero_bits}
use Rattle.model_call_tests.specs.CoordinateLaws.{zero_next, zero_fails, zero_end}
use Rattle.model_call_tests.proofs.unused_zero.Given as goal

abbrev pub invariant-loop-i : goal.invariant-loop-i
invariant-loop-i l = all_zero (drop l.n l.xs) ≡ all_zero (drop l.i l.xs)
