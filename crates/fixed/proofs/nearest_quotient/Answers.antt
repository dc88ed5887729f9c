-- `nearest_quotient` is the rounding of a natural number: its floor and remainder are those of n / d.
use mathlib.Core.Path.{◌≡◌, sym}
use Prim.Native.Nat.{ℕ, ◌+◌, ◌*◌, ◌/◌, ◌%◌, ◌≤◌, ◌<◌}
use native.Mathlib.Nat as NatL
use native.Mathlib.Omega.{arith}
use borrow.Author.Rules.{rules}
use lib.IntN.{pos}
use Rattle.numbers.specs.Division.{floor, remainder, nearest}
use Rattle.numbers.proofs.DivisionLaws.{division}
use Rattle.numbers.proofs.NearestLaws.{nearest_down, nearest_up}
use Rattle.fixed.proofs.nearest_quotient.Goals as goal

module _ (n d : ℕ) (h : 0 < d) where
  rest : remainder (pos n) d ≡ n % d
  unfolding floor
  rest = omega (arith, division (pos n) d h, NatL.div-add-mod n d)

  quotient_below : n % d * 2 + n / d % 2 ≤ d → pos (n / d) ≡ nearest (pos n) d
  unfolding floor
  quotient_below l = sym (nearest_down (pos n) d (omega (arith, rest)))

  quotient_above : d < n % d * 2 + n / d % 2 → pos (n / d + 1) ≡ nearest (pos n) d
  unfolding floor
  quotient_above l = sym (nearest_up (pos n) d (omega (arith, rest)))

pub overflow_mul-twice : goal.overflow_mul-twice
overflow_mul-twice c = record { fits = omega (arith, c.requires, NatL.mod-le c.args.n c.args.d) }

pub overflow_add-twice : goal.overflow_add-twice
overflow_add-twice c = record { fits = omega (arith, c.requires, NatL.mod-le c.args.n c.args.d) }

pub overflow_add-result : goal.overflow_add-result
overflow_add-result c =
    record { fits = omega (arith, c.before.requires, NatL.div-le_self c.before.args.n c.before.args.d) }

pub returns-then-twice-odd : goal.returns-then-twice-odd
returns-then-twice-odd c = quotient_below c.before.args.n c.before.args.d c.before.requires.d_nonzero
    c.if-twice-odd.true

pub returns-else-twice-odd : goal.returns-else-twice-odd
returns-else-twice-odd c = quotient_above c.before.args.n c.before.args.d c.before.requires.d_nonzero
    c.if-twice-odd.false
