-- `add` makes the tests of two models, then adds them, or stores the refusal.
use mathlib.Core.Path.{◌≡◌, sym, ◌∙◌}
use borrow.Author.Rules.{rules}
use Rattle.calculus.specs.Model.{most_degree}
use Rattle.model_types.specs.ModelStruct.{view, verdict}
use Rattle.std.specs.Prelude.{Ok}
use Rattle.model_slices.specs.HandedModels.{handed}
use Rattle.model_call_tests.specs.Admission.{two_models}
use Rattle.model_slice_answers.specs.StoredAnswersLaws.{stored_same}
use Rattle.model_sum_slices.specs.AddendsLaws.{passed_addends, add_passed, add_refused}
use Rattle.model_sum_slices.proofs.add.Goals as goal
use Rattle.model_sum_slices.proofs.add.Goals.{In-Ok}

-- the tests have passed
module _ (c : In-Ok) where
  passed : verdict (two_models most_degree
      (view (handed c.args.n1 c.args.count1 c.args.radius1 c.args.keys1.now
      c.args.coefficients1.now))
      (view (handed c.args.n2 c.args.count2 c.args.radius2 c.args.keys2.now
      c.args.coefficients2.now))) ≡ Ok tt
  unfolding most_degree
  passed = sym c.two_models-v.ensures ∙ c.in-Ok.is

pub store_sum-requires : goal.store_sum-requires
store_sum-requires c =
    record {
      addends = passed_addends _ _ _ _ _ _ _ _ _ _ c.requires.coefficients1_value c.requires.coefficients2_value
          (passed (goal.at.store_sum-requires c).In-Ok);
      most_terms_in_bounds = c.requires.most_terms_in_bounds;
    }

pub returns-in-Ok : goal.returns-in-Ok
returns-in-Ok c =
    stored_same (add_passed _ _ _ _ _ _ _ _ _ _ c.requires.coefficients1_value c.requires.coefficients2_value
    (passed (goal.at.returns-in-Ok c).In-Ok)) c.store_sum.ensures

pub returns-in-Err : goal.returns-in-Err
unfolding most_degree
returns-in-Err c =
    let e = sym c.two_models-v.ensures ∙ c.in-Err.is in
    stored_same (add_refused _ _ _ _ _ _ _ _ _ _ _ _ e) c.store_refused.ensures
