-- `divided` lends the arrays of four structs.
use mathlib.Core.Path.{sym}
use borrow.Author.Rules.{rules}
use Rattle.calculus.specs.Model.{most_terms}
use Rattle.model_multiplication.specs.OwnArraysLaws.{Whole}
use Rattle.model_quotient.specs.LentLaws.{lent_proposal, first_long, second_long, third_long, fourth_long}
use Rattle.model_quotient.specs.LentLaws.{lent_quotient}
use Rattle.model_quotient.proofs.divided.Goals as goal
use Rattle.model_quotient.proofs.divided.Goals.{Start}

-- ---- the arrays of f, g, h and w have all places
module _ (s : Start) where
  first_whole : Whole s.args.f
  unfolding most_terms
  first_whole = record { keys_whole = search rules; coefficients_whole = search rules }

  second_whole : Whole s.args.g
  unfolding most_terms
  second_whole = record { keys_whole = search rules; coefficients_whole = search rules }

  third_whole : Whole s.args.h
  unfolding most_terms
  third_whole = record { keys_whole = search rules; coefficients_whole = search rules }

  fourth_whole : Whole s.args.w
  unfolding most_terms
  fourth_whole = record { keys_whole = search rules; coefficients_whole = search rules }

pub slice_bounds-divided_slices-end : goal.slice_bounds-divided_slices-end
unfolding most_terms
slice_bounds-divided_slices-end c = sym (first_whole (goal.at.slice_bounds-divided_slices-end c).Start
    ).keys_whole

pub slice_bounds-divided_slices-end-3 : goal.slice_bounds-divided_slices-end-3
unfolding most_terms
slice_bounds-divided_slices-end-3 c = sym (second_whole (goal.at.slice_bounds-divided_slices-end-3 c).Start).keys_whole

pub slice_bounds-divided_slices-end-5 : goal.slice_bounds-divided_slices-end-5
unfolding most_terms
slice_bounds-divided_slices-end-5 c = sym (third_whole (goal.at.slice_bounds-divided_slices-end-5 c).Start).keys_whole

pub slice_bounds-divided_slices-end-7 : goal.slice_bounds-divided_slices-end-7
unfolding most_terms
slice_bounds-divided_slices-end-7 c = sym (fourth_whole (goal.at.slice_bounds-divided_slices-end-7 c).Start).keys_whole

pub divided_slices-requires : goal.divided_slices-requires
divided_slices-requires c =
    let q = c.requires.proposal in
    let f = first_whole (goal.at.divided_slices-requires c).Start in
    let g = second_whole (goal.at.divided_slices-requires c).Start in
    let h = third_whole (goal.at.divided_slices-requires c).Start in
    let w = fourth_whole (goal.at.divided_slices-requires c).Start in record {
      proposal = lent_proposal q f g h w;
      countf_in_bounds = first_long q f g h w;
      countg_in_bounds = second_long q f g h w;
      counth_in_bounds = third_long q f g h w;
      countw_in_bounds = fourth_long q f g h w;
      scratch_room = c.requires.scratch_room;
    }

pub returns : goal.returns
returns c =
    lent_quotient c.requires.proposal (first_whole (goal.at.returns c).Start) (second_whole (goal.at.returns c).Start)
    (third_whole (goal.at.returns c).Start) (fourth_whole (goal.at.returns c).Start)
    c.divided_slices.ensures
