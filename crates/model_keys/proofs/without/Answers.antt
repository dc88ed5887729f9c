-- `without` takes a digit out of the key.
use native.Mathlib.Omega.{arith}
use borrow.Author.Rules.{rules}
use Rattle.calculus.specs.Key.{key_width}
use Rattle.calculus_laws.specs.MonomialKeyLaws.{word_key}
use Rattle.model_keys.specs.Keys.{Slot}
use Rattle.model_keys.specs.KeyShiftLaws.{bits_small, counted_le, without_shifted}
use Rattle.model_keys.proofs.without.Goals as goal

pub overflow_shr-exponent : goal.overflow_shr-exponent
overflow_shr-exponent c = bits_small _ c.before.requires _ c.bits_after-bits.ensures

pub overflow_shl-result : goal.overflow_shl-result
overflow_shl-result c = bits_small _ c.before.requires _ c.bits_after-bits.ensures

pub overflow_sub-result : goal.overflow_sub-result
overflow_sub-result c = counted_le _ c.before.requires _ c.bits_after-bits.ensures c.before.args.key
    (word_key _ (omega arith))

pub returns : goal.returns
returns c = without_shifted _ c.before.requires _ c.bits_after-bits.ensures c.before.args.key
    (word_key _ (omega arith))
