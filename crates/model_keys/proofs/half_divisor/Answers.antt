-- `half_divisor` multiplies four digits, each one higher; each factor is at most 16.
use native.Mathlib.Omega.{arith}
use Rattle.model_keys.specs.KeyHalvesLaws.{divisor_key, two_factors, three_factors, four_factors}
use borrow.Author.Rules.{rules}
use Rattle.model_keys.proofs.half_divisor.Goals as goal

pub overflow_mul-result : goal.overflow_mul-result
overflow_mul-result c = omega (arith, two_factors _ c.requires)

pub overflow_mul-result-2 : goal.overflow_mul-result-2
overflow_mul-result-2 c = omega (arith, three_factors _ c.requires)

pub overflow_mul-result-3 : goal.overflow_mul-result-3
overflow_mul-result-3 c = omega (arith, four_factors _ c.requires)

pub returns : goal.returns
returns c = divisor_key c.args.half
