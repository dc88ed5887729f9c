-- `signed_of` is the integer of 32 bits: moved up by the sign bit and around, they stand in order from the least on.
use mathlib.Core.Path.{◌≡◌}
use Prim.Native.Nat.{ℕ, suc, ◌+◌, ◌-◌, ◌%◌, ◌^◌, ◌≤◌, ◌<◌}
use native.Mathlib.Omega.{arith}
use native.Mathlib.Decide.{dec_le}
use borrow.Author.Tests.{lt-ltb, le-ltb}
use lib.IntN.{pos, negsuc, ◌-ℤ◌}
use mir.Facts.{to_z-of_z}
use mir.Syntax.{w64}
use mir.Val.{SFits}
use mir.ValLaws.{to_z_pos}
use Rattle.algebra.specs.Integer.{Is, is, is_add, is_neg, is_nat, is_eq}
use Rattle.fixed.specs.MachineLaws.{fits_range}
use Rattle.format.specs.Bytes.{signed}
use borrow.Author.Rules.{rules}
use Rattle.model_bytes.proofs.signed_of.Goals as goal

-- where the bits are moved to, and what is taken off then
abbrev moved : ℕ → ℕ
moved u = (u + 2147483648) % 4294967296

below : (m : ℕ) → Is (pos m -ℤ pos 2147483648) (m + 0) (0 + 2147483648)
below m = is_add (is_nat m) (is_neg (is_nat 2147483648))

below_fits : (u : ℕ) → SFits w64 (pos (moved u) -ℤ pos 2147483648)
below_fits u = fits_range (below (moved u)) (omega arith) (omega arith)

-- the two halves of the bits
from_zero_on : (u : ℕ) → u < 2 ^ 31 → pos (moved u) -ℤ pos 2147483648 ≡ signed u
unfolding signed
from_zero_on u h = rw (lt-ltb u (2 ^ 31) h, signed) (is_eq (below (moved u)) (is_nat u) (omega arith))

from_sign_on : (u : ℕ) → 2 ^ 31 ≤ u → u < 2 ^ 32 → pos (moved u) -ℤ pos 2147483648 ≡ signed u
unfolding signed
from_sign_on u l h =
    rw (le-ltb u (2 ^ 31) l, signed)
    (is_eq (below (moved u)) (is (negsuc (2 ^ 32 - suc u))) (omega arith))

in_order : (u : ℕ) → u < 2 ^ 32 → pos (moved u) -ℤ pos 2147483648 ≡ signed u
in_order u h = go (dec_le (2 ^ 31) u)
  where
    go : Dec (2 ^ 31 ≤ u) → pos (moved u) -ℤ pos 2147483648 ≡ signed u
    go (yes l) = from_sign_on u l h
    go (no l) = from_zero_on u (omega arith)

pub overflow_sub-result : goal.overflow_sub-result
overflow_sub-result c = rw (to_z_pos w64 (moved c.args.bits) (omega arith)) (below_fits c.args.bits)

pub returns : goal.returns
returns c =
    rw (to_z_pos w64 (moved c.args.bits) (omega arith), to_z-of_z (below_fits c.args.bits))
    (in_order c.args.bits (omega arith))
