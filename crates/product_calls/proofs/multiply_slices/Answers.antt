-- `multiply_slices` makes the tests of the order and of two models, then multiplies them.
use mathlib.Core.Path.{◌≡◌, sym, ◌∙◌}
use borrow.Author.Rules.{rules}
use Rattle.model_types.specs.ModelStruct.{view, verdict}
use Rattle.std.specs.Prelude.{Ok}
use Rattle.model_slices.specs.HandedModels.{handed}
use Rattle.model_call_tests.specs.Admission.{ordered}
use Rattle.product_calls.specs.SliceCallLaws.{slices_factors, slices_long, slices_multiplied, slices_refused}
use Rattle.product_calls.specs.SliceCallLaws.{slices_unready}
use Rattle.product_calls.proofs.multiply_slices.Goals as goal
use Rattle.product_calls.proofs.multiply_slices.Goals.{In-Ok}

-- the tests have passed
module _ (c : In-Ok) where
  passed : verdict (ordered c.args.d
      (view (handed c.args.n1 c.args.count1 c.args.radius1 c.args.keys1.now
      c.args.coefficients1.now))
      (view (handed c.args.n2 c.args.count2 c.args.radius2 c.args.keys2.now
      c.args.coefficients2.now))) ≡ Ok tt
  passed = sym c.ordered-v.ensures ∙ c.in-Ok.is

pub multiplied_slices_alone-requires : goal.multiplied_slices_alone-requires
multiplied_slices_alone-requires c =
    let l = slices_long _ _ _ _ _ _ _ _ _ _ _ (passed (goal.at.multiplied_slices_alone-requires c).In-Ok)
    c.requires.coefficients1_value c.requires.coefficients2_value in
    record {
      factors = slices_factors _ _ _ _ _ _ _ _ _ _ _ (passed (goal.at.multiplied_slices_alone-requires c).In-Ok);
      count1_in_bounds = l.0;
      count2_in_bounds = l.1;
      kept_room = c.requires.kept_room;
    }

pub returns-in-Ok : goal.returns-in-Ok
returns-in-Ok c =
    record {
      exact = slices_multiplied _ _ _ _ _ _ _ _ _ _ _ (passed (goal.at.returns-in-Ok c).In-Ok) _ _ _ _
          c.multiplied_slices_alone.ensures.exact;
      ready = c.multiplied_slices_alone.ensures.ready;
    }

pub returns-in-Err : goal.returns-in-Err
returns-in-Err c =
    let a = c.args in
    let k = a.kept.now in
    let z = a.coefficients.now in
    let e = sym c.ordered-v.ensures ∙ c.in-Err.is in
    record {
      exact = slices_refused _ _ _ _ _ _ _ _ _ _ _ _ k z _ _ e;
      ready = slices_unready _ k z _ _;
    }
