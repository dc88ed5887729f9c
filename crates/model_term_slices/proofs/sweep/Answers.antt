-- `sweep` makes its tests, then the operation, or stores the refusal.
use mathlib.Core.Path.{◌≡◌, sym, ◌∙◌, ap}
use borrow.Author.Rules.{rules}
use lib.IntN.{nat_abs}
use mir.Facts.{to_z-of_z}
use Rattle.calculus.specs.Model.{Model}
use Rattle.calculus.specs.Operations as Op
use Rattle.calculus.specs.Refusal.{done}
use Rattle.model_types.specs.ModelStruct.{view, verdict, answer}
use Rattle.std.specs.Prelude.{Ok}
use Rattle.model_slices.specs.HandedModels.{handed}
use Rattle.model_slices.specs.HeldModels.{held}
use Rattle.model_call_tests.specs.Admission.{sweeping}
use Rattle.model_slice_answers.specs.StoredAnswersLaws.{stored_same}
use Rattle.model_term_slices.specs.TermCallLaws.{sweep_sound, sweep_passed, sweep_refused}
use Rattle.model_term_slices.proofs.sweep.Goals as goal
use Rattle.model_term_slices.proofs.sweep.Goals.{In-Ok, Start}

abbrev handed-model : Start → Model
handed-model s =
    view (handed s.args.n s.args.count s.args.radius s.args.keys.now s.args.coefficients.now)

-- the tests have passed
module _ (c : In-Ok) where
  passed : verdict (sweeping c.args.t (handed-model c.before.before.before.before.before.before)) ≡ Ok tt
  passed =
      sym (c.sweeping-v.ensures
      ∙ ap (λ t. verdict (sweeping t (handed-model c.before.before.before.before.before.before)))
      (to_z-of_z c.ranges.t))
      ∙ c.in-Ok.is

pub store_swept-requires : goal.store_swept-requires
store_swept-requires c =
    record {
      sound_slices = sweep_sound _ _ _ _ _ c.requires.coefficients_value _
          (passed (goal.at.store_swept-requires c).In-Ok);
      most_terms_in_bounds = c.requires.most_terms_in_bounds;
    }

pub returns-in-Ok : goal.returns-in-Ok
returns-in-Ok c =
    stored_same
    (ap (λ z. answer (done (Op.sweep z (view (held c.args.n c.args.count c.args.radius c.args.keys.now
    c.args.coefficients.now)))))
    (c.magnitude.ensures ∙ ap nat_abs (to_z-of_z c.ranges.t))
    ∙ sweep_passed _ _ _ _ _ c.requires.coefficients_value _ (passed (goal.at.returns-in-Ok c).In-Ok))
    c.store_swept.ensures

pub returns-in-Err : goal.returns-in-Err
returns-in-Err c =
    let e = sym (c.sweeping-v.ensures ∙ ap (λ t. verdict
    (sweeping t (handed-model (goal.at.returns-in-Err c).Start))) (to_z-of_z c.ranges.t))
    ∙ c.in-Err.is in
    stored_same (sweep_refused _ _ _ _ _ _ _ _ e) c.store_refused.ensures
