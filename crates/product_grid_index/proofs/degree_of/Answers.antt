-- `degree_of` takes the larger of the largest so far and one more key's.
use Rattle.std.proofs.Common.{◌≡◌, max, arith, rules, get_or, ap, ◌∙◌}
use Rattle.std.proofs.lemmas.List.{get_or-take, length-take-le}
use Rattle.model_keys.specs.Keys.{wide_degree}
use Rattle.product_grid_index.specs.DegreeLaws.{degree_byte, top_more}
use Rattle.product_grid_index.proofs.degree_of.Goals as goal
use Rattle.product_grid_index.proofs.degree_of.Goals.{After-wide_degree-degree}

degree_is : (d : After-wide_degree-degree)
    → d.wide_degree-degree.result ≡ wide_degree (get_or d.args.keys.now d.loop-key.key-index 0)
degree_is d =
    d.wide_degree-degree.ensures
    ∙ ap wide_degree (get_or-take d.args.count d.args.keys.now d.loop-key.key-index 0
    (omega (arith, length-take-le d.args.count d.args.keys.now d.requires)))

pub overflow_cast-degree : goal.overflow_cast-degree
overflow_cast-degree c =
    omega (
      arith,
      degree_is (goal.at.overflow_cast-degree c).After-wide_degree-degree,
      degree_byte (get_or c.args.keys.now c.loop-key.key-index 0),
    )

pub loop-key-preserved : goal.loop-key-preserved
loop-key-preserved c =
    let larger : c.max-most.result ≡ max c.loop-key.most c.wide_degree-degree.result = search rules in
    rw larger
    (top_more _ _ _ _ c.loop-key.invariant (degree_is (goal.at.loop-key-preserved c).After-wide_degree-degree))
