-- `key_fits` is the test that the digits after the n-th are 0.
use native.Mathlib.Omega.{arith}
use Rattle.calculus_laws.specs.MonomialKeyLaws.{word_key}
use Rattle.model_keys.specs.KeyShiftLaws.{bits_small, unit_pos, fits_shifted}
use Rattle.model_keys.proofs.key_fits.Goals as goal

pub bits_after-bits-requires : goal.bits_after-bits-requires
bits_after-bits-requires c = c.requires.last

pub overflow_shl-others : goal.overflow_shl-others
overflow_shl-others c = bits_small _ c.before.requires _ c.bits_after-bits.ensures

pub overflow_sub-others : goal.overflow_sub-others
overflow_sub-others c = unit_pos _ c.before.requires _ c.bits_after-bits.ensures

pub returns : goal.returns
returns c = fits_shifted _ c.before.requires _ c.bits_after-bits.ensures c.before.args.key (word_key _ (omega arith))
