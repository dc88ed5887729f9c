-- `bits_of` adds 2^32 to what is negative.
use mathlib.Core.Path.{◌≡◌, sym, ap, ◌∙◌}
use Prim.Native.Nat.{ℕ, suc, ◌-◌, ◌^◌, ◌<◌, ◌≤◌}
use native.Mathlib.Omega.{arith}
use lib.Dec.{T, lit≤}
use lib.IntN.{ℤ, pos, negsuc, nat_abs, ◌+ℤ◌}
use lib.Signed.{mag, non_neg}
use mir.Facts.{to_z-of_z}
use mir.Syntax.{w32, w64}
use mir.Val.{Fits, SFits, to_z, of_z}
use Rattle.fixed.specs.MachineLaws.{fits_size, negative, not_negative}
use Rattle.format.specs.Bytes.{bits}
use Rattle.model_bytes.specs.WordBitsLaws.{word_more, bits_pos, bits_negsuc}
use Rattle.model_bytes.proofs.bits_of.Goals as goal
use Rattle.model_bytes.proofs.bits_of.Goals.{Else-z-lt0, Then-z-lt0}

-- ---- a negative number, and w added to it
module _ (c : Then-z-lt0) where
  abbrev z : ℤ
  z = c.args.z

  is_negative : z ≡ negsuc (mag z)
  is_negative = negative c.ranges.z c.if-z-lt0.true

  small : mag z < 2 ^ 31
  small = let e = ap nat_abs is_negative in omega (arith, c.requires)

  module _ (w : ℕ) (low : 2 ^ 31 ≤ w) (high : w ≤ 2 ^ 32) where
    sum_is : to_z w64 (of_z w64 z) +ℤ pos w ≡ pos (w - suc (mag z))
    sum_is = ap (λ y. y +ℤ pos w) (to_z-of_z c.ranges.z ∙ is_negative)
        ∙ word_more (mag z) w (omega (arith, small))

    sum_fits : SFits w64 (to_z w64 (of_z w64 z) +ℤ pos w)
    sum_fits = rw sum_is (fits_size (omega arith))

    read_back : to_z w64 (of_z w64 (to_z w64 (of_z w64 z) +ℤ pos w)) ≡ pos (w - suc (mag z))
    read_back = to_z-of_z sum_fits ∙ sum_is

    castable : T (non_neg (to_z w64 (of_z w64 (to_z w64 (of_z w64 z) +ℤ pos w))))
        × Fits w32 (nat_abs (to_z w64 (of_z w64 (to_z w64 (of_z w64 z) +ℤ pos w))))
    castable = rw read_back (tt, omega arith)

pub overflow_add-result : goal.overflow_add-result
overflow_add-result c = sum_fits c _ (lit≤ tt) (lit≤ tt)

pub overflow_cast-result : goal.overflow_cast-result
overflow_cast-result c = castable c _ (lit≤ tt) (lit≤ tt)

pub returns-then-z-lt0 : goal.returns-then-z-lt0
returns-then-z-lt0 c = ap nat_abs (read_back c _ (lit≤ tt) (lit≤ tt))
    ∙ sym (ap bits (is_negative c) ∙ bits_negsuc (mag (z c)))

-- ---- another stays
module _ (c : Else-z-lt0) where
  stays : to_z w64 (of_z w64 c.args.z) ≡ pos (mag c.args.z)
  stays = to_z-of_z c.ranges.z ∙ not_negative c.ranges.z c.if-z-lt0.false

pub overflow_cast-result-else-z-lt0 : goal.overflow_cast-result-else-z-lt0
overflow_cast-result-else-z-lt0 c =
    let e = ap nat_abs (not_negative c.ranges.z c.if-z-lt0.false) in
    rw (stays c) (tt, omega (arith, c.requires))

pub returns-else-z-lt0 : goal.returns-else-z-lt0
returns-else-z-lt0 c = rw (stays c)
    (sym (ap bits (not_negative c.ranges.z c.if-z-lt0.false) ∙ bits_pos (mag c.args.z)))
