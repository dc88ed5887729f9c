-- `store_integrated` integrates into two arrays of its own, and stores what is left there.
use mathlib.Core.Path.{refl}
use borrow.Author.Rules.{rules}
use Rattle.calculus.specs.Model.{most_terms}
use Rattle.model_slice_answers.specs.StoredAnswersLaws.{stored_same}
use Rattle.model_term_slices.specs.TermCallLaws.{integrand_in}
use Rattle.model_term_slices.proofs.store_integrated.Goals as goal

pub integrated_slices-l-requires : goal.integrated_slices-l-requires
unfolding most_terms
integrated_slices-l-requires c =
    record {
      integrand_in = integrand_in c.requires.integrand_slices;
      zeros = record { keys = refl; coefficients = refl };
    }

pub returns : goal.returns
returns c =
    stored_same (c.integrated_slices-l.ensures (integrand_in c.requires.integrand_slices)) c.store_left.ensures
