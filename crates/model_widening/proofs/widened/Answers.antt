-- `widened` adds the radius to both, and tests the limits.
use native.Mathlib.Omega.{arith}
use borrow.Author.Rules.{rules}
use Rattle.model_widening.specs.WideningLaws.{widened_packed, widened_in}
use Rattle.model_widening.proofs.widened.Goals as goal

pub carrying-all-requires : goal.carrying-all-requires
carrying-all-requires c = record {
  carried_bound = c.requires.carried_bound.0;
  e_le_span_limit = omega (arith, c.requires.carried_bound.1);
}

pub limited_slices-left-requires : goal.limited_slices-left-requires
limited_slices-left-requires c = c.requires.count_le_model_places

pub returns : goal.returns
returns c = λ n ks room packed t e.
    let a = c.args in
    let sum = c.capped_sum in
    widened_in n a.count a.e a.radius ks a.coefficients.now sum.ensures
    (c.limited_slices-left.ensures n ks room
    (widened_packed n a.count a.e a.radius ks a.coefficients.now sum.result packed))
    t (c.carrying-all.ensures t e) c.unless_refused-shares.ensures
