-- `exponent_of` is a digit of the key.
use native.Mathlib.Omega.{arith}
use borrow.Author.Rules.{rules}
use Rattle.calculus.specs.Key.{key_width}
use Rattle.calculus_laws.specs.MonomialKeyLaws.{word_key}
use Rattle.model_keys.specs.Keys.{Slot}
use Rattle.model_keys.specs.KeyShiftLaws.{bits_small, exponent_shifted}
use Rattle.model_keys.proofs.exponent_of.Goals as goal

pub overflow_shr-result : goal.overflow_shr-result
overflow_shr-result c = bits_small _ c.before.requires _ c.bits_after-bits.ensures

pub returns : goal.returns
returns c = exponent_shifted _ c.before.requires _ c.bits_after-bits.ensures c.before.args.key
    (word_key _ (omega arith))
