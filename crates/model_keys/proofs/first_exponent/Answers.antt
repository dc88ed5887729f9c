-- `first_exponent` is the highest digit of the key.
use native.Mathlib.Omega.{arith}
use Rattle.model_keys.specs.KeyExponentLaws.{first_exponent}
use Rattle.model_keys.proofs.first_exponent.Goals as goal

pub overflow_cast-result : goal.overflow_cast-result
overflow_cast-result c = omega arith

pub returns : goal.returns
returns c = record {
  below = omega arith;
  exact = first_exponent c.args.key;
}
