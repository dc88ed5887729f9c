-- Two's complement as the code computes it: a number w is added to a negative one; for 32 bits w is 2^32.
use Rattle.std.specs.Prelude.{◌≡◌, refl, ℕ, suc, ◌-◌, ◌^◌, ◌<◌, pos, negsuc, ◌+ℤ◌}
use Rattle.std.proofs.Common.{arith}
use Rattle.algebra.specs.Integer.{is, is_eq, is_add, is_nat}
use Rattle.format.specs.Bytes.{bits}

pub word_more : (n w : ℕ) → n < w → negsuc n +ℤ pos w ≡ pos (w - suc n)
word_more n w h = is_eq (is_add (is (negsuc n)) (is_nat w)) (is_nat (w - suc n)) (omega arith)

pub bits_pos : (n : ℕ) → bits (pos n) ≡ n
unfolding bits
bits_pos n = refl

pub bits_negsuc : (n : ℕ) → bits (negsuc n) ≡ 2 ^ 32 - suc n
unfolding bits
bits_negsuc n = refl
