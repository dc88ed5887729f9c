-- `multiplied_alone` lends the arrays of both factors, has the product kept in two arrays of its own, and packs it.
use mathlib.Core.Path.{◌∙◌}
use borrow.Author.Rules.{rules}
use lib.Dec.{lit≤}
use Rattle.calculus.specs.Model.{most_terms}
use Rattle.model_types.specs.SharesStructLaws.{accounted_answer}
use Rattle.model_multiplication.specs.OwnArraysLaws.{Whole, own_factors, first_long, second_long, own_product}
use Rattle.model_multiplication.proofs.multiplied_alone.Goals as goal
use Rattle.model_multiplication.proofs.multiplied_alone.Goals.{Start}

-- ---- the arrays of both factors have all places
module _ (s : Start) where
  first_whole : Whole s.args.f
  unfolding most_terms
  first_whole = record { keys_whole = search rules; coefficients_whole = search rules }

  second_whole : Whole s.args.g
  unfolding most_terms
  second_whole = record { keys_whole = search rules; coefficients_whole = search rules }

pub multiplied_slices_alone-k-requires : goal.multiplied_slices_alone-k-requires
unfolding most_terms
multiplied_slices_alone-k-requires c =
    let wf = first_whole (goal.at.multiplied_slices_alone-k-requires c).Start in
    let wg = second_whole (goal.at.multiplied_slices_alone-k-requires c).Start in
    let h = c.requires in record {
      factors = own_factors h wf wg;
      count1_in_bounds = first_long h wf wg;
      count2_in_bounds = second_long h wf wg;
      kept_room = record { kept_room = lit≤ tt; coefficients_room = lit≤ tt };
    }

pub returns : goal.returns
returns c =
    accounted_answer _ _
    (c.packed_kept-product.ensures
    ∙ own_product c.requires (first_whole (goal.at.returns c).Start) (second_whole (goal.at.returns c).Start) _
    c.multiplied_slices_alone-k.ensures.exact)
