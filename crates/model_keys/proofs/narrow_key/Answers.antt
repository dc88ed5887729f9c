-- `narrow_key` moves the digits of a wide key together, then its bytes, then its halves.
use Prim.Native.Nat.{ℕ, ◌+◌, ◌/◌}
use native.Mathlib.Omega.{arith}
use lib.Bits.{bit_and}
use lib.Dec.{lit<}
use Rattle.model_keys.specs.SpreadLaws.{masked_quotients, gathered_key}
use Rattle.model_keys.proofs.narrow_key.Goals as goal

-- the word with the digits of each byte together
abbrev bytes : ℕ → ℕ
bytes x = bit_and x 0x1E007801E00780 / 8 + bit_and x 0x3C00F003C00F

pub overflow_add-bytes : goal.overflow_add-bytes
overflow_add-bytes c = record {
  fits = masked_quotients (c.args.wide / 256)
      (c.args.wide / 256) 0x1E007801E00780 0x3C00F003C00F 8 (lit< tt);
}

pub overflow_add-halves : goal.overflow_add-halves
overflow_add-halves c = record {
  fits = masked_quotients (bytes (c.args.wide / 256)) (bytes
      (c.args.wide / 256)) 0x3FC00003FC000 0xFF00000FF 64 (lit< tt);
}

pub overflow_mul-result : goal.overflow_mul-result
overflow_mul-result c = record { fits = omega (arith, (gathered_key c.args.wide (omega arith) c.requires).small) }

pub overflow_add-result : goal.overflow_add-result
overflow_add-result c = record { fits = omega (arith, (gathered_key c.args.wide (omega arith) c.requires).small) }

pub overflow_cast-result : goal.overflow_cast-result
overflow_cast-result c = record { fits = omega (arith, (gathered_key c.args.wide (omega arith) c.requires).small) }

pub returns : goal.returns
returns c = (gathered_key c.args.wide (omega arith) c.requires).is
