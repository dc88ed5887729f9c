-- `divisor` is a power of two, up to the largest.
use mathlib.Core.Path.{◌∙◌, ap}
use Prim.Native.Nat.{◌^◌}
use native.Mathlib.Omega.{arith}
use Rattle.model_doubles.specs.DoubleParts.{divisor}
use Rattle.model_doubles.specs.ScaledPartsLaws.{shifted}
use Rattle.model_doubles.proofs.divisor.Goals as goal

pub returns : goal.returns
unfolding divisor
returns c = shifted _ (omega (arith, c.min.ensures)) ∙ ap (λ k. 2 ^ k) c.min.ensures
