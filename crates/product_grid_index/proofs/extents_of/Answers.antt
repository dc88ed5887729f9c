-- `extents_of` raises the extents by one key after the other.
use Rattle.std.proofs.Common.{◌≡◌, arith, get_or, take, refl, sym, ◌∙◌, ap}
use Rattle.std.proofs.lemmas.List.{get_or-take, length-take-le}
use Rattle.product_grid_index.specs.Grid.{raised_by, extents}
use Rattle.product_grid_index.specs.GridLaws.{extents_more}
use Rattle.product_grid_index.proofs.extents_of.Goals as goal

pub loop-key-init : goal.loop-key-init
unfolding extents
loop-key-init c = refl

pub loop-key-preserved : goal.loop-key-preserved
loop-key-preserved c =
    let keys = c.args.keys.now in
    let i = c.loop-key.key-index in
    let key : get_or (take c.args.count keys) i 0 ≡ get_or keys i 0 =
    get_or-take c.args.count keys i 0 (omega (arith, length-take-le c.args.count keys c.requires)) in
    c.raised-e.ensures ∙ ap (raised_by c.loop-key.e) key ∙ ap (λ e. raised_by e (get_or keys i 0)) c.loop-key.invariant
    ∙ sym (extents_more i keys)
