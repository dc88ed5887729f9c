-- `wide_key` puts the degree after the exponents.
use mathlib.Core.Path.{sym, subst}
use Prim.Native.Nat.{◌/◌, ◌%◌, ◌^◌, ◌<◌}
use native.Mathlib.Omega.{arith}
use Rattle.calculus_laws.specs.MonomialKeyLaws.{word_key}
use Rattle.model_keys.specs.KeyHalvesLaws.{half_wide_lt, wide_halves, key_degree_lt}
use borrow.Author.Rules.{rules}
use Rattle.model_keys.proofs.wide_key.Goals as goal
use Rattle.model_keys.proofs.wide_key.Goals.{After-degree-total, After-spread-exponents}

exponents_lt : (c : After-spread-exponents) → c.spread-exponents.result < 2 ^ 56
exponents_lt c = omega (
  arith,
  c.spread-exponents.ensures,
  half_wide_lt (c.before.args.key / 65536) (omega arith),
  half_wide_lt (c.before.args.key % 65536) (omega arith),
)

degree_lt : (c : After-degree-total) → c.degree-total.result < 256
degree_lt c = subst (λ x. x < 256) (sym c.degree-total.ensures)
    (key_degree_lt c.before.before.args.key (word_key _ (omega arith)))

pub overflow_mul-result : goal.overflow_mul-result
overflow_mul-result c = record { fits = omega (arith, exponents_lt c.before) }

pub overflow_add-result : goal.overflow_add-result
overflow_add-result c = record { fits = omega (arith, exponents_lt c.before, degree_lt c) }

pub returns : goal.returns
returns c = rw (c.before.spread-exponents.ensures, c.degree-total.ensures)
    (wide_halves c.before.before.args.key (word_key _ (omega arith)))
