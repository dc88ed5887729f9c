-- `store_refused` stores zeros in all places, and the refusal's place.
use native.Mathlib.Omega.{arith}
use borrow.Author.Rules.{rules}
use Rattle.calculus.specs.Model.{most_terms}
use Rattle.model_slice_answers.specs.StoredAnswersLaws.{stored_refused}
use Rattle.model_slice_answers.proofs.store_refused.Goals as goal

pub copy_keys-requires : goal.copy_keys-requires
unfolding most_terms
copy_keys-requires c = (omega arith, c.requires.0)

pub copy_coefficients-requires : goal.copy_coefficients-requires
unfolding most_terms
copy_coefficients-requires c =
    (omega arith, c.requires.1)

pub returns : goal.returns
unfolding most_terms
returns c =
    stored_refused _ _ c.number.ensures c.copy_keys.ensures c.copy_coefficients.ensures
    c.store_numbers.ensures
