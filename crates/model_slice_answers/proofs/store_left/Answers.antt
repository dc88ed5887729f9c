-- `store_left` stores all places and the numbers of an accepted answer, or a refusal.
use mathlib.Core.Path.{sym}
use native.Mathlib.Omega.{arith}
use borrow.Author.Rules.{rules}
use Rattle.calculus.specs.Model.{most_terms}
use Rattle.model_places.specs.LeftModelsLaws.{left_refused}
use Rattle.model_slice_answers.specs.StoredAnswersLaws.{stored_same, left_stored}
use Rattle.model_slice_answers.proofs.store_left.Goals as goal

pub copy_keys-requires : goal.copy_keys-requires
unfolding most_terms
copy_keys-requires c =
    (omega (arith, c.requires.room.keys), c.requires.most_terms_in_bounds.0)

pub copy_coefficients-requires : goal.copy_coefficients-requires
unfolding most_terms
copy_coefficients-requires c =
    (omega (arith, c.requires.room.coefficients), c.requires.most_terms_in_bounds.1)

pub returns-in-Ok : goal.returns-in-Ok
unfolding most_terms
returns-in-Ok c =
    left_stored _ _ _ _ c.requires.room c.in-Ok.is c.copy_keys.ensures c.copy_coefficients.ensures
    c.store_numbers.ensures

pub returns-in-Err : goal.returns-in-Err
returns-in-Err c =
    stored_same (sym (left_refused _ _ _ _ _ _ c.in-Err.is)) c.store_refused.ensures
