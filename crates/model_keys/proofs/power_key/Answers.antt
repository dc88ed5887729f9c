-- `power_key` moves the exponent to the highest digit.
use native.Mathlib.Omega.{arith}
use Rattle.model_keys.specs.KeyExponentLaws.{power_word}
use Rattle.model_keys.proofs.power_key.Goals as goal

pub overflow_cast-exponent : goal.overflow_cast-exponent
overflow_cast-exponent c = omega (arith, c.requires)

pub overflow_mul-result : goal.overflow_mul-result
overflow_mul-result c = omega (arith, c.requires)

pub returns : goal.returns
returns c = power_word c.args.k
