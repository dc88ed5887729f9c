-- `store_sum` sums into two arrays of its own, and stores what is left there.
use mathlib.Core.Path.{refl}
use borrow.Author.Rules.{rules}
use Rattle.calculus.specs.Model.{most_terms}
use Rattle.model_slice_answers.specs.StoredAnswersLaws.{stored_same}
use Rattle.model_slice_results.specs.DifferenceLaws.{sum_from, radii_fit}
use Rattle.model_sum_slices.proofs.store_sum.Goals as goal

pub sum_into-l-requires : goal.sum_into-l-requires
unfolding most_terms
sum_into-l-requires c =
    let w = c.requires.addends in
    record {
      sum_from = sum_from w;
      radius2_bound = radii_fit w;
      zeros = record { keys = refl; coefficients = refl };
    }

pub returns : goal.returns
returns c =
    stored_same (c.sum_into-l.ensures _ c.requires.addends) c.store_left.ensures
