-- `multiplied_accounted` lends the arrays of both factors.
use borrow.Author.Rules.{rules}
use Rattle.calculus.specs.Model.{most_terms}
use Rattle.model_multiplication.specs.OwnArraysLaws.{Whole, own_factors, first_long, second_long, own_product}
use Rattle.model_multiplication.proofs.multiplied_accounted.Goals as goal
use Rattle.model_multiplication.proofs.multiplied_accounted.Goals.{Start}

-- ---- the arrays of both factors have all places
module _ (s : Start) where
  first_whole : Whole s.args.f
  unfolding most_terms
  first_whole = record { keys_whole = search rules; coefficients_whole = search rules }

  second_whole : Whole s.args.g
  unfolding most_terms
  second_whole = record { keys_whole = search rules; coefficients_whole = search rules }

pub multiplied_slices_accounted-requires : goal.multiplied_slices_accounted-requires
multiplied_slices_accounted-requires c =
    let wf = first_whole (goal.at.multiplied_slices_accounted-requires c).Start in
    let wg = second_whole (goal.at.multiplied_slices_accounted-requires c).Start in
    let h = c.requires.factors in
    record {
      factors = own_factors h wf wg;
      count1_in_bounds = first_long h wf wg;
      count2_in_bounds = second_long h wf wg;
      scratch_room = c.requires.scratch_room;
    }

pub returns : goal.returns
returns c =
    own_product c.requires.factors (first_whole (goal.at.returns c).Start) (second_whole (goal.at.returns c).Start) _
    c.multiplied_slices_accounted.ensures
