-- `divisor` multiplies those of both halves, or has that of the upper one.
use mathlib.Core.Path.{◌≡◌, sym, ◌∙◌, ap₂, subst}
use Prim.Native.Nat.{ℕ, ◌*◌, ◌/◌, ◌%◌, ◌<◌, ◌≤◌}
use native.Mathlib.Nat as NatL
use native.Mathlib.Omega.{arith}
use Rattle.calculus_laws.specs.MonomialKeyLaws.{word_key}
use Rattle.model_keys.specs.KeyHalvesLaws.{half_divisor_le, divisor_halves, divisor_upper}
use borrow.Author.Rules.{rules}
use Rattle.model_keys.proofs.divisor.Goals as goal
use Rattle.model_keys.proofs.divisor.Goals.{After-half_divisor}

module _ (c : After-half_divisor) where
  abbrev key : ℕ
  key = c.before.before.before.args.key

  factors : c.before.before.half_divisor-high.result * c.half_divisor.result ≤ 4294967296
  factors = subst (λ x. x ≤ 4294967296) (sym (ap₂ ◌*◌ c.before.before.half_divisor-high.ensures
      c.half_divisor.ensures))
      (NatL.mul-le-mul (half_divisor_le (key / 65536) (omega arith)) (half_divisor_le (key % 65536) (omega arith)))

pub returns-then-lower-eq0 : goal.returns-then-lower-eq0
returns-then-lower-eq0 c = c.before.half_divisor-high.ensures
    ∙ divisor_upper c.before.before.args.key (word_key _ (omega arith)) (omega (arith, c.if-lower-eq0.true))

pub overflow_mul-result : goal.overflow_mul-result
overflow_mul-result c = record { fits = omega (arith, factors c) }

pub returns : goal.returns
returns c = ap₂ ◌*◌ c.before.before.half_divisor-high.ensures c.half_divisor.ensures
    ∙ divisor_halves c.before.before.before.args.key (word_key _ (omega arith))
