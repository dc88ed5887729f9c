-- `degree` is the sum of a key's digits: two by two in each byte, then the bytes.
use Prim.Native.Nat.{ℕ, ◌+◌, ◌*◌, ◌/◌, ◌^◌, ◌<◌}
use native.Mathlib.Omega.{arith}
use lib.Bits.{bit_and, and_le_l, and_le_r}
use Rattle.calculus_laws.specs.MonomialKeyLaws.{word_key}
use Rattle.model_keys.specs.KeyDegreeLaws.{key_word_degree}
use Rattle.model_keys.proofs.degree.Goals as goal

-- the lower digits, and others one place down
room : (key mask : ℕ) → key < 2 ^ 32 → bit_and key 0x0F0F0F0F + bit_and key mask / 16 < 2 ^ 32
room key mask h = omega (arith, and_le_r key 0x0F0F0F0F, and_le_l key mask)

-- with room for the product that adds its bytes
wide : {x : ℕ} → x < 2 ^ 32 → x < 2 ^ 64
wide h = omega arith

wide_product : {x : ℕ} → x < 2 ^ 32 → x * 0x01010101 < 2 ^ 64
wide_product h = omega arith

pub overflow_add-sums : goal.overflow_add-sums
overflow_add-sums c = record { fits = room c.args.key _ (omega arith) }

pub overflow_cast-sums : goal.overflow_cast-sums
overflow_cast-sums c = record { fits = wide (room c.args.key _ (omega arith)) }

pub overflow_mul-result : goal.overflow_mul-result
overflow_mul-result c = record { fits = wide_product (room c.args.key _ (omega arith)) }

pub overflow_cast-result : goal.overflow_cast-result
overflow_cast-result c = omega arith

pub returns : goal.returns
returns c = key_word_degree c.args.key (word_key _ (omega arith))
