-- `spread` moves the halves of a key apart, then its bytes, then its digits; masked words are no larger than the mask.
use Prim.Native.Nat.{ℕ, ◌+◌, ◌*◌, ◌/◌, ◌%◌}
use native.Mathlib.Omega.{arith}
use lib.Bits.{bit_and}
use lib.Dec.{lit<}
use Rattle.model_keys.specs.SpreadLaws.{masked_product, masked_sum, spread_halves}
use borrow.Author.Rules.{rules}
use Rattle.model_keys.proofs.spread.Goals as goal

-- the words on the way
abbrev halves : ℕ → ℕ
halves key = key / 65536 * 268435456 + key % 65536

abbrev bytes : ℕ → ℕ
bytes key = bit_and (halves key) 0xFF00000FF00 * 64 + bit_and (halves key) 0xFF00000FF

pub overflow_mul-bytes : goal.overflow_mul-bytes
overflow_mul-bytes c = record { fits = masked_product (halves c.args.key) 0xFF00000FF00 64 (lit< tt) }

pub overflow_add-bytes : goal.overflow_add-bytes
overflow_add-bytes c =
    record { fits = masked_sum (halves c.args.key) (halves c.args.key) 0xFF00000FF00 0xFF00000FF 64 (lit< tt) }

pub overflow_mul-result : goal.overflow_mul-result
overflow_mul-result c = record { fits = masked_product (bytes c.args.key) 0x3C00F003C00F0 8 (lit< tt) }

pub overflow_add-result : goal.overflow_add-result
overflow_add-result c = record {
  fits = masked_sum (bytes c.args.key) (bytes
      c.args.key) 0x3C00F003C00F0 0x3C00F003C00F 8 (lit< tt);
}

pub returns : goal.returns
returns c = spread_halves (c.args.key / 65536) (c.args.key % 65536) (omega arith) (omega arith)
