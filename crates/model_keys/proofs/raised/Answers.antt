-- `raised` adds what one of variable i counts in the key.
use native.Mathlib.Omega.{arith}
use borrow.Author.Rules.{rules}
use Rattle.calculus.specs.Key.{key_width}
use Rattle.calculus_laws.specs.MonomialKeyLaws.{word_key}
use Rattle.model_keys.specs.Keys.{Slot}
use Rattle.model_keys.specs.KeyShiftLaws.{bits_small, raised_shifted, raised_word}
use Rattle.model_keys.proofs.raised.Goals as goal

pub overflow_shl-one : goal.overflow_shl-one
overflow_shl-one c = bits_small _ c.before.requires.slot _ c.bits_after-bits.ensures

pub overflow_add-result : goal.overflow_add-result
overflow_add-result c = record {
  fits = raised_word _ c.before.requires.slot _ c.bits_after-bits.ensures c.before.args.key
      (word_key _ (omega arith)) c.before.requires.room;
}

pub returns : goal.returns
returns c = raised_shifted _ c.before.requires.slot _ c.bits_after-bits.ensures c.before.args.key
