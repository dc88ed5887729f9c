-- `store_negated` turns the signs into two arrays of its own, and stores what is left there.
use mathlib.Core.Path.{refl}
use borrow.Author.Rules.{rules}
use Rattle.calculus.specs.Model.{most_terms}
use Rattle.model_slice_answers.specs.StoredAnswersLaws.{stored_same}
use Rattle.model_term_slices.specs.TermCallLaws.{lies}
use Rattle.model_term_slices.proofs.store_negated.Goals as goal

pub negated_slices-l-requires : goal.negated_slices-l-requires
unfolding most_terms
negated_slices-l-requires c =
    record {
      lies = lies c.requires.sound_slices;
      zeros = record { keys = refl; coefficients = refl };
    }

pub returns : goal.returns
returns c =
    stored_same (c.negated_slices-l.ensures (lies c.requires.sound_slices)) c.store_left.ensures
