-- `multiplied_slices_accounted` has the product kept in two arrays of its own, and packs it.
use mathlib.Core.Path.{◌∙◌}
use borrow.Author.Rules.{rules}
use lib.Dec.{lit≤}
use Rattle.calculus.specs.Model.{most_terms}
use Rattle.product_slices.proofs.multiplied_slices_accounted.Goals as goal

pub multiplied_slices-k-requires : goal.multiplied_slices-k-requires
unfolding most_terms
multiplied_slices-k-requires c =
    let p = c.requires in
    record {
      factors = p.factors;
      count1_in_bounds = p.count1_in_bounds;
      count2_in_bounds = p.count2_in_bounds;
      scratch_room = p.scratch_room;
      kept_room = record { kept_room = lit≤ tt; coefficients_room = lit≤ tt };
    }

pub returns : goal.returns
returns c =
    c.packed_kept.ensures ∙ c.multiplied_slices-k.ensures.exact
