-- `range` makes the test of one model, then takes the range of the slices.
use mathlib.Core.Path.{◌≡◌, sym, ◌∙◌}
use borrow.Author.Rules.{rules}
use Rattle.model_types.specs.ModelStruct.{view, verdict}
use Rattle.std.specs.Prelude.{Ok}
use Rattle.model_slices.specs.HandedModels.{handed}
use Rattle.model_places.specs.LeftModels.{Lies}
use Rattle.model_call_tests.specs.Admission.{single_model}
use Rattle.model_term_slices.specs.TermCallLaws.{lies, single_sound, range_passed, range_refused}
use Rattle.model_term_slices.proofs.range.Goals as goal
use Rattle.model_term_slices.proofs.range.Goals.{In-Ok}

-- the test has passed
module _ (c : In-Ok) where
  passed : verdict (single_model
      (view (handed c.args.n c.args.count c.args.radius c.args.keys.now
      c.args.coefficients.now))) ≡ Ok tt
  passed = sym c.single_model-v.ensures ∙ c.in-Ok.is

  abbrev lying : Lies c.args.count c.args.radius c.args.keys.now
      c.args.coefficients.now
  lying = lies (single_sound c.args.n _ _ _ _ c.requires passed)

pub range_slices-requires : goal.range_slices-requires
range_slices-requires c = lying c

pub returns-in-Ok : goal.returns-in-Ok
returns-in-Ok c =
    c.range_slices.ensures (lying (goal.at.returns-in-Ok c).In-Ok)
    ∙ range_passed _ _ _ _ _ c.requires (passed (goal.at.returns-in-Ok c).In-Ok)

pub returns-in-Err : goal.returns-in-Err
returns-in-Err c =
    let e = sym c.single_model-v.ensures ∙ c.in-Err.is in
    c.refuse_bounds.ensures ∙ range_refused _ _ _ _ _ _ _ e
