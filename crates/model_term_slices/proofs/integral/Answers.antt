-- `integral` makes the test of one model, then takes the integral of the slices.
use mathlib.Core.Path.{◌≡◌, sym, ◌∙◌}
use borrow.Author.Rules.{rules}
use Rattle.model_types.specs.ModelStruct.{view, verdict}
use Rattle.std.specs.Prelude.{Ok}
use Rattle.model_slices.specs.HandedModels.{handed}
use Rattle.model_call_tests.specs.Admission.{single_model}
use Rattle.model_term_slices.specs.TermCallLaws.{single_sound, integral_passed, integral_refused}
use Rattle.model_term_slices.proofs.integral.Goals as goal
use Rattle.model_term_slices.proofs.integral.Goals.{In-Ok}

-- the test has passed
module _ (c : In-Ok) where
  passed : verdict (single_model
      (view (handed c.args.n c.args.count c.args.radius c.args.keys.now
      c.args.coefficients.now))) ≡ Ok tt
  passed = sym c.single_model-v.ensures ∙ c.in-Ok.is

pub integral_slices-requires : goal.integral_slices-requires
integral_slices-requires c =
    let s = single_sound _ _ _ _ _ c.requires (passed c) in record {
      places = s.places;
      t = s.model;
    }

pub returns-in-Ok : goal.returns-in-Ok
returns-in-Ok c =
    c.integral_slices.ensures ∙ integral_passed _ _ _ _ _ c.requires
    (passed (goal.at.returns-in-Ok c).In-Ok)

pub returns-in-Err : goal.returns-in-Err
returns-in-Err c =
    let e = sym c.single_model-v.ensures ∙ c.in-Err.is in
    c.refuse_integral.ensures ∙ integral_refused _ _ _ _ _ _ _ e
