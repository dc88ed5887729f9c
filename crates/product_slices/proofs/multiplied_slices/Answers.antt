-- `multiplied_slices` unpacks both factors, has their products gathered, and answers.
use Prim.Native.Nat.{◌≤◌}
use borrow.Author.Rules.{rules}
use lib.ListN.{length}
use Rattle.calculus.specs.Model.{most_terms}
use Rattle.model_slices.specs.HandedModels.{handed}
use Rattle.product_answer.specs.ProductFactors.{Unpacked}
use Rattle.product_slices.specs.SliceFactorLaws.{few_terms, sound_handed, sound_unpacked}
use Rattle.product_slices.specs.SliceFactorLaws.{slice_factors, slice_ready, slice_answer}
use Rattle.product_slices.proofs.multiplied_slices.Goals as goal
use Rattle.product_slices.proofs.multiplied_slices.Goals.{After-kept_in_scratch-r, After-unpack-b, Start}

-- ---- what is asked at the start
module _ (s : Start) where
  few_first : s.args.count1 ≤ 64
  unfolding most_terms
  few_first = few_terms _ _ _ _ _ _ s.requires.factors.first

  few_second : s.args.count2 ≤ 64
  unfolding most_terms
  few_second = few_terms _ _ _ _ _ _ s.requires.factors.second

pub unpack-a-requires : goal.unpack-a-requires
unpack-a-requires c =
    record {
      handed = sound_handed _ _ _ _ _ _ c.requires.factors.first c.requires.count1_in_bounds.0
          c.requires.count1_in_bounds.1;
      count_in_bounds = few_first (goal.at.unpack-a-requires c).Start;
    }

pub unpack-b-requires : goal.unpack-b-requires
unpack-b-requires c =
    record {
      handed = sound_handed _ _ _ _ _ _ c.requires.factors.second c.requires.count2_in_bounds.0
          c.requires.count2_in_bounds.1;
      count_in_bounds = few_second (goal.at.unpack-b-requires c).Start;
    }

-- ---- where both factors are unpacked
module _ (c : After-unpack-b) where
  first : Unpacked (handed c.args.n c.args.count1 c.args.radius1 c.args.keys1.now
      c.args.coefficients1.now) c.unpack-a.new.wide c.args.coefficients1.now
      c.unpack-a.result
  first = sound_unpacked _ _ _ _ _ _ c.requires.factors.first c.requires.count1_in_bounds.0
      c.requires.count1_in_bounds.1
      c.unpack-a.ensures

  second : Unpacked (handed c.args.n c.args.count2 c.args.radius2 c.args.keys2.now
      c.args.coefficients2.now) c.unpack-b.new.wide c.args.coefficients2.now
      c.unpack-b.result
  second = sound_unpacked _ _ _ _ _ _ c.requires.factors.second c.requires.count2_in_bounds.0
      c.requires.count2_in_bounds.1
      c.unpack-b.ensures

  first_long : c.args.count1 ≤ length c.unpack-a.new.wide
  first_long = let f = few_first c.before.before.before.before.before.before.before.before.before.before.before
      in search rules

  second_long : c.args.count2 ≤ length c.unpack-b.new.wide
  second_long = let f = few_second c.before.before.before.before.before.before.before.before.before.before.before
      in search rules

pub kept_in_scratch-r-requires : goal.kept_in_scratch-r-requires
kept_in_scratch-r-requires c =
    record {
      held_factors = slice_factors _ _ _ _ _ _ _ _ _ _ c.requires.factors
          (first (goal.at.kept_in_scratch-r-requires c).After-unpack-b)
          (second (goal.at.kept_in_scratch-r-requires c).After-unpack-b)
          (first_long (goal.at.kept_in_scratch-r-requires c).After-unpack-b) c.requires.count1_in_bounds.1
          (second_long (goal.at.kept_in_scratch-r-requires c).After-unpack-b) c.requires.count2_in_bounds.1;
      scratch_room = c.requires.scratch_room;
      kept_room = c.requires.kept_room;
    }

-- ---- where the products are gathered
module _ (c : After-kept_in_scratch-r) where
  kept_long : most_terms ≤ length c.kept_in_scratch-r.new.kept
  kept_long = let r = c.requires.kept_room.kept_room in search rules

  coefficients_long : most_terms ≤ length c.kept_in_scratch-r.new.coefficients
  coefficients_long = let r = c.requires.kept_room.coefficients_room in search rules

pub kept_answer-requires : goal.kept_answer-requires
unfolding most_terms
kept_answer-requires c =
    slice_ready _ _ _ _ _ _ _ _ _ _ c.requires.factors (first (goal.at.kept_answer-requires c).After-unpack-b)
    (second (goal.at.kept_answer-requires c).After-unpack-b)
    (first_long (goal.at.kept_answer-requires c).After-unpack-b) c.requires.count1_in_bounds.1
    (second_long (goal.at.kept_answer-requires c).After-unpack-b) c.requires.count2_in_bounds.1
    c.kept_in_scratch-r.ensures (kept_long (goal.at.kept_answer-requires c).After-kept_in_scratch-r)
    (coefficients_long (goal.at.kept_answer-requires c).After-kept_in_scratch-r)

pub returns : goal.returns
unfolding most_terms
returns c =
    record {
      exact = slice_answer _ _ _ _ _ _ _ _ _ _ c.requires.factors (first (goal.at.returns c).After-unpack-b)
          (second (goal.at.returns c).After-unpack-b) (first_long (goal.at.returns c).After-unpack-b)
          c.requires.count1_in_bounds.1
          (second_long (goal.at.returns c).After-unpack-b) c.requires.count2_in_bounds.1 c.kept_in_scratch-r.ensures
          (kept_long (goal.at.returns c).After-kept_in_scratch-r)
          (coefficients_long (goal.at.returns c).After-kept_in_scratch-r)
          c.kept_answer.ensures.exact;
      ready = c.kept_answer.ensures.ready;
    }
