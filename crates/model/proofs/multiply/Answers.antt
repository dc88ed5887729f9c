-- `multiply` makes the tests of the order and of two models, then multiplies them.
use mathlib.Core.Path.{◌≡◌, sym, ◌∙◌, ap}
use borrow.Author.Rules.{rules}
use Rattle.model_types.specs.ModelStruct.{view, verdict, answer}
use Rattle.std.specs.Prelude.{Ok}
use Rattle.model_call_tests.specs.Admission.{ordered}
use Rattle.model_call_tests.specs.AdmissionLaws.{ordered_passed, goes_on, is_refused}
use Rattle.model.specs.CallLaws.{multiply_is}
use Rattle.model.proofs.multiply.Goals as goal
use Rattle.model.proofs.multiply.Goals.{In-Ok}

-- the tests have passed
module _ (c : In-Ok) where
  passed : verdict (ordered c.args.d (view c.args.a) (view c.args.b)) ≡ Ok tt
  passed = sym c.ordered-v.ensures ∙ c.in-Ok.is

pub multiplied_alone-requires : goal.multiplied_alone-requires
unfolding view
multiplied_alone-requires c =
    let p = ordered_passed _ _ _ (passed c) in
    record {
      order = p.order;
      first = p.models.first;
      second = p.models.second;
      vars = p.models.vars;
    }

pub returns-in-Ok : goal.returns-in-Ok
returns-in-Ok c = c.multiplied_alone.ensures
    ∙ ap answer (sym (multiply_is _ _ _ ∙ goes_on _ _ (passed (goal.at.returns-in-Ok c).In-Ok)))

pub returns-in-Err : goal.returns-in-Err
returns-in-Err c =
    let e = sym c.ordered-v.ensures ∙ c.in-Err.is in
    c.refuse.ensures ∙ ap answer (sym (multiply_is _ _ _ ∙ is_refused _ _ _ _ e))
