-- `bits_after` counts four bits for each exponent after that of variable i.
use native.Mathlib.Omega.{arith}
use borrow.Author.Rules.{rules}
use Rattle.calculus.specs.Key.{key_width}
use Rattle.model_keys.proofs.bits_after.Goals as goal

pub overflow_sub-result : goal.overflow_sub-result
unfolding key_width
overflow_sub-result c = omega (arith, c.requires)

pub returns : goal.returns
unfolding key_width
returns c = omega (arith, c.requires)
