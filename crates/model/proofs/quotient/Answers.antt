-- `quotient` makes the tests of the order and of the four models, then divides with a table that goes by the most
-- products of the forms.
use mathlib.Core.Path.{◌≡◌, sym, ◌∙◌, ap}
use native.Mathlib.Omega.{arith}
use borrow.Author.Rules.{rules}
use Rattle.model_types.specs.ModelStruct.{view, verdict, answer}
use Rattle.calculus.specs.Refusal.{at_place}
use Rattle.calculus.specs.Operations as Op
use Rattle.calculus.specs.Calls.{call_quotient}
use Rattle.model_types.specs.declared.Answer.{Answer}
use Rattle.std.specs.Prelude.{Ok}
use Rattle.model_call_tests.specs.Admission.{dividing}
use Rattle.model_call_tests.specs.AdmissionLaws.{dividing_passed, goes_on, is_refused}
use Rattle.model_quotient_room.specs.model_proposal.Proposal.{Proposal}
use Rattle.model_quotient_room.specs.QuotientTableLaws.{counts_few, products_any}
use Rattle.model.specs.CallLaws.{quotient_is}
use Rattle.model.proofs.quotient.Goals as goal
use Rattle.model.proofs.quotient.Goals.{In-Ok}

-- the tests have passed
module _ (c : In-Ok) where
  passed : verdict (dividing c.args.d (view c.args.f) (view c.args.g) (view c.args.h)
      (view c.args.w))
      ≡ Ok tt
  passed = sym c.dividing-v.ensures ∙ c.in-Ok.is

  asked : Proposal c.args.d c.args.f c.args.g c.args.h c.args.w
  unfolding view
  asked =
      let p = dividing_passed _ _ _ _ _ passed in
      record {
        order = p.order;
        dividend = p.first;
        divisor = p.second;
        proposed = p.third;
        inverse = p.fourth;
        divisor_vars = sym p.second_vars;
        proposed_vars = sym p.third_vars;
        inverse_vars = sym p.fourth_vars;
      }

  answers : {r : Answer}
      → r
      ≡ answer (at_place 0 (Op.quotient c.args.d (view c.args.f) (view c.args.g)
      (view c.args.h) (view c.args.w)))
      → r ≡ answer (call_quotient c.args.d (view c.args.f) (view c.args.g)
      (view c.args.h) (view c.args.w))
  answers e = e ∙ ap answer (sym (quotient_is _ _ _ _ _ ∙ goes_on _ _ passed))

pub most_products-products-requires : goal.most_products-products-requires
most_products-products-requires c = counts_few (asked c)

-- ---- few products
pub divided_in-requires-clause-proposal : goal.divided_in-requires-clause-proposal
divided_in-requires-clause-proposal c = asked (goal.at.divided_in-requires-clause-proposal c).In-Ok

pub returns-then-products-le-FEW_PRODUCTS : goal.returns-then-products-le-FEW_PRODUCTS
returns-then-products-le-FEW_PRODUCTS c = answers (goal.at.returns-then-products-le-FEW_PRODUCTS c).In-Ok
    c.divided_in.ensures

-- ---- some
pub divided_in-requires-then-products-le-SOME_PRODUCTS-clause-proposal :
    goal.divided_in-requires-then-products-le-SOME_PRODUCTS-clause-proposal
divided_in-requires-then-products-le-SOME_PRODUCTS-clause-proposal c =
    asked (goal.at.divided_in-requires-then-products-le-SOME_PRODUCTS-clause-proposal c).In-Ok

pub returns-then-products-le-SOME_PRODUCTS : goal.returns-then-products-le-SOME_PRODUCTS
returns-then-products-le-SOME_PRODUCTS c = answers (goal.at.returns-then-products-le-SOME_PRODUCTS c).In-Ok
    c.divided_in-then-products-le-SOME_PRODUCTS.ensures

-- ---- any number
pub divided_in-requires-in-Ok-clause-proposal : goal.divided_in-requires-in-Ok-clause-proposal
divided_in-requires-in-Ok-clause-proposal c = asked (goal.at.divided_in-requires-in-Ok-clause-proposal c).In-Ok

pub divided_in-requires-in-Ok-clause-count_bound : goal.divided_in-requires-in-Ok-clause-count_bound
divided_in-requires-in-Ok-clause-count_bound c =
    products_any (asked (goal.at.divided_in-requires-in-Ok-clause-count_bound c).In-Ok)

pub returns-else-products-le-SOME_PRODUCTS : goal.returns-else-products-le-SOME_PRODUCTS
returns-else-products-le-SOME_PRODUCTS c = answers (goal.at.returns-else-products-le-SOME_PRODUCTS c).In-Ok
    c.divided_in-in-Ok.ensures

pub returns-in-Err : goal.returns-in-Err
returns-in-Err c =
    let e = sym c.dividing-v.ensures ∙ c.in-Err.is in
    c.refuse.ensures ∙ ap answer (sym (quotient_is _ _ _ _ _ ∙ is_refused _ _ _ _ e))
