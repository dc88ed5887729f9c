-- `antiderivative` makes its tests, then the operation, or stores the refusal.
use mathlib.Core.Path.{◌≡◌, sym, ◌∙◌}
use borrow.Author.Rules.{rules}
use Rattle.model_types.specs.ModelStruct.{view, verdict}
use Rattle.std.specs.Prelude.{Ok}
use Rattle.model_slices.specs.HandedModels.{handed}
use Rattle.model_call_tests.specs.Admission.{integrating}
use Rattle.model_slice_answers.specs.StoredAnswersLaws.{stored_same}
use Rattle.model_term_slices.specs.TermCallLaws.{antiderivative_sound, antiderivative_passed}
use Rattle.model_term_slices.specs.TermCallLaws.{antiderivative_refused}
use Rattle.model_term_slices.proofs.antiderivative.Goals as goal
use Rattle.model_term_slices.proofs.antiderivative.Goals.{In-Ok}

-- the tests have passed
module _ (c : In-Ok) where
  passed : verdict (integrating c.args.d c.args.i
      (view (handed c.args.n c.args.count c.args.radius c.args.keys.now
      c.args.coefficients.now))) ≡ Ok tt
  passed = sym c.integrating-v.ensures ∙ c.in-Ok.is

pub store_integrated-requires : goal.store_integrated-requires
store_integrated-requires c =
    record {
      integrand_slices = antiderivative_sound _ _ _ _ _ c.requires.coefficients_value _ _
          (passed (goal.at.store_integrated-requires c).In-Ok);
      most_terms_in_bounds = c.requires.most_terms_in_bounds;
    }

pub returns-in-Ok : goal.returns-in-Ok
returns-in-Ok c =
    stored_same (antiderivative_passed _ _ _ _ _ c.requires.coefficients_value _ _
    (passed (goal.at.returns-in-Ok c).In-Ok)) c.store_integrated.ensures

pub returns-in-Err : goal.returns-in-Err
returns-in-Err c =
    let e = sym c.integrating-v.ensures ∙ c.in-Err.is in
    stored_same (antiderivative_refused _ _ _ _ _ _ _ _ _ e) c.store_refused.ensures
