-- `used_within` goes over the first n coordinates.
use mathlib.Core.Path.{◌≡◌, refl, sym, ◌∙◌, ap}
use Prim.Native.Nat.{◌≤◌, ◌-◌}
use native.Mathlib.Omega.{arith}
use borrow.Author.Rules.{rules}
use borrow.Author.Tests.{not-true, not-false}
use lib.Dec.{leb}
use lib.IntN.{ℤ, pos, nat_abs}
use lib.ListN.{length, take, drop, get_or}
use mir.Facts.{to_z-of_z}
use mir.Syntax.{w64}
use mir.Val.{to_z, of_z}
use Rattle.numbers.specs.Fixed.{U}
use Rattle.calculus.specs.Key.{key_width}
use Rattle.calculus.specs.Tests.{all_in_unit}
use Rattle.model_call_tests.specs.CoordinateLaws.{unit_next, unit_fails, unit_end}
use Rattle.model_call_tests.proofs.used_within.Given as goal

abbrev pub invariant-loop-i : goal.invariant-loop-i
invariant-loop-i l = all_in_unit (take l.n l.xs) ≡ all_in_unit (drop l.i (take l.n l.xs))
