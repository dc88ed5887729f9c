-- `store_difference` turns the signs of the second, and adds.
use borrow.Author.Rules.{rules}
use Rattle.calculus.specs.Model.{most_terms}
use Rattle.model_slice_answers.specs.StoredAnswersLaws.{stored_same}
use Rattle.model_slice_results.specs.DifferenceLaws.{second_few, second_small, turned_addends, difference_is}
use Rattle.model_sum_slices.proofs.store_difference.Goals as goal

pub turn-requires : goal.turn-requires
unfolding most_terms
turn-requires c =
    let w = c.requires.addends in
    record {
      count_in_bounds = (w.second.coefficients, second_few w);
      by_index = second_small w;
    }

pub store_sum-requires : goal.store_sum-requires
unfolding most_terms
store_sum-requires c =
    record {
      addends = turned_addends c.requires.addends c.turn.ensures;
      most_terms_in_bounds = c.requires.most_terms_in_bounds;
    }

pub returns : goal.returns
unfolding most_terms
returns c =
    stored_same (difference_is c.requires.addends c.turn.ensures) c.store_sum.ensures
