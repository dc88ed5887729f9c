-- `negate` makes its tests, then the operation, or stores the refusal.
use mathlib.Core.Path.{◌≡◌, sym, ◌∙◌}
use borrow.Author.Rules.{rules}
use Rattle.model_types.specs.ModelStruct.{view, verdict}
use Rattle.std.specs.Prelude.{Ok}
use Rattle.model_slices.specs.HandedModels.{handed}
use Rattle.model_call_tests.specs.Admission.{single_model}
use Rattle.model_slice_answers.specs.StoredAnswersLaws.{stored_same}
use Rattle.model_term_slices.specs.TermCallLaws.{single_sound, negate_passed, negate_refused}
use Rattle.model_term_slices.proofs.negate.Goals as goal
use Rattle.model_term_slices.proofs.negate.Goals.{In-Ok}

-- the tests have passed
module _ (c : In-Ok) where
  passed : verdict (single_model
      (view (handed c.args.n c.args.count c.args.radius c.args.keys.now
      c.args.coefficients.now))) ≡ Ok tt
  passed = sym c.single_model-v.ensures ∙ c.in-Ok.is

pub store_negated-requires : goal.store_negated-requires
store_negated-requires c =
    record {
      sound_slices = single_sound _ _ _ _ _ c.requires.coefficients_value
          (passed (goal.at.store_negated-requires c).In-Ok);
      most_terms_in_bounds = c.requires.most_terms_in_bounds;
    }

pub returns-in-Ok : goal.returns-in-Ok
returns-in-Ok c =
    stored_same (negate_passed _ _ _ _ _ c.requires.coefficients_value
    (passed (goal.at.returns-in-Ok c).In-Ok)) c.store_negated.ensures

pub returns-in-Err : goal.returns-in-Err
returns-in-Err c =
    let e = sym c.single_model-v.ensures ∙ c.in-Err.is in
    stored_same (negate_refused _ _ _ _ _ _ _ e) c.store_refused.ensures
