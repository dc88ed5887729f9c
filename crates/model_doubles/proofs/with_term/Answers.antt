-- `with_term` stores a term after the others, unless its coefficient is 0.
use mathlib.Core.Path.{◌∙◌, ap}
use Prim.Native.Nat.{◌+◌}
use native.Mathlib.Omega.{arith}
use borrow.Author.Rules.{rules}
use lib.ListN.{set}
use mir.Facts.{to_z-of_z}
use Rattle.calculus.specs.Model.{most_terms}
use Rattle.calculus_laws.specs.MonomialKeyLaws.{word_key}
use Rattle.model_types.specs.ZeroTestLaws.{zero_bits, nonzero_bits}
use Rattle.model_doubles.specs.OneMoreTermLaws.{with_none, with_one}
use Rattle.model_doubles.proofs.with_term.Goals as goal

pub returns-then-coefficient-eq0 : goal.returns-then-coefficient-eq0
returns-then-coefficient-eq0 c o h = with_none _ o _ _ (zero_bits c.ranges.coefficient c.if-coefficient-eq0.true) h

pub offset_bounds-keys-count : goal.offset_bounds-keys-count
unfolding most_terms
offset_bounds-keys-count c = search rules

pub bounds-keys-count : goal.bounds-keys-count
unfolding most_terms
bounds-keys-count c = search rules

pub offset_bounds-coefficients-count : goal.offset_bounds-coefficients-count
unfolding most_terms
offset_bounds-coefficients-count c = search rules

pub bounds-coefficients-count : goal.bounds-coefficients-count
unfolding most_terms
bounds-coefficients-count c = search rules

pub overflow_add-result : goal.overflow_add-result
unfolding most_terms
overflow_add-result c = search rules

pub returns : goal.returns
unfolding most_terms
returns c o h =
    ap (λ z. record {
      n = c.args.m.n;
      count = c.args.m.count + 1;
      radius = c.args.m.radius;
      keys = set c.args.m.keys c.args.m.count c.args.key;
      coefficients = set c.args.m.coefficients c.args.m.count z;
    })
    (to_z-of_z c.ranges.coefficient)
    ∙ with_one c.args.m o c.args.key c.args.coefficient (nonzero_bits _ c.if-coefficient-eq0.false)
    c.requires.n_value c.requires.count_lt_most_terms (word_key _ (omega arith)) h
