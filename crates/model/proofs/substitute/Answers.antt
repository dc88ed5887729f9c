-- `substitute` makes the tests of the order, the models and the variable, then substitutes in a table that goes by the
-- terms of g.
use mathlib.Core.Path.{◌≡◌, sym, ◌∙◌, ap}
use native.Mathlib.Omega.{arith}
use borrow.Author.Rules.{rules}
use Rattle.model_types.specs.ModelStruct.{view, verdict, answer}
use Rattle.std.specs.Prelude.{◌≤◌}
use Rattle.calculus.specs.Model.{most_terms}
use Rattle.model_types.specs.ModelStructLaws.{limits}
use Rattle.calculus.specs.Refusal.{at_place}
use Rattle.calculus.specs.Operations as Op
use Rattle.calculus.specs.Calls.{call_substitute}
use Rattle.model_types.specs.declared.Answer.{Answer}
use Rattle.std.specs.Prelude.{Ok}
use Rattle.model_call_tests.specs.Admission.{substituting}
use Rattle.model_call_tests.specs.AdmissionLaws.{substituting_passed, goes_on, is_refused}
use Rattle.model_substitution.specs.Substitute.{Substitution}
use Rattle.model.specs.CallLaws.{substitute_is}
use Rattle.model.proofs.substitute.Goals as goal
use Rattle.model.proofs.substitute.Goals.{In-Ok}

-- the tests have passed
module _ (c : In-Ok) where
  passed : verdict (substituting c.args.d c.args.i (view c.args.f) (view c.args.g))
      ≡ Ok tt
  passed = sym c.substituting-v.ensures ∙ c.in-Ok.is

  asked : Substitution c.args.d c.args.i c.args.f c.args.g
  unfolding view
  asked =
      let p = substituting_passed _ _ _ _ passed in
      record {
        order = p.order;
        model = p.model;
        inner = p.inner;
        vars = p.vars;
        first = p.least;
        last = p.most;
      }

  few : c.args.g.count ≤ most_terms
  few = (limits _ _ asked.inner).few

  answers : {r : Answer}
      → r
      ≡ answer (at_place 0 (Op.substitute c.args.d c.args.i (view c.args.f)
      (view c.args.g)))
      → r ≡ answer (call_substitute c.args.d c.args.i (view c.args.f) (view c.args.g))
  answers e = e ∙ ap answer (sym (substitute_is _ _ _ _ ∙ goes_on _ _ passed))

-- ---- g of few terms
pub substituted_in-requires-clause-slots : goal.substituted_in-requires-clause-slots
unfolding most_terms
substituted_in-requires-clause-slots c = omega (arith, c.if-g-le-FEW_TERMS.true)

pub substituted_in-requires-clause-places : goal.substituted_in-requires-clause-places
unfolding most_terms
substituted_in-requires-clause-places c =
    let few = c.if-g-le-FEW_TERMS.true in (omega (arith, few), omega (arith, few))

pub substituted_in-requires-clause-substitution : goal.substituted_in-requires-clause-substitution
substituted_in-requires-clause-substitution c = asked (goal.at.substituted_in-requires-clause-substitution c).In-Ok

pub returns-then-g-le-FEW_TERMS : goal.returns-then-g-le-FEW_TERMS
returns-then-g-le-FEW_TERMS c = answers (goal.at.returns-then-g-le-FEW_TERMS c).In-Ok c.substituted_in.ensures

-- ---- of some, where f has no more
pub substituted_in-requires-then-f-le-SOME_TERMS-clause-slots :
    goal.substituted_in-requires-then-f-le-SOME_TERMS-clause-slots
unfolding most_terms
substituted_in-requires-then-f-le-SOME_TERMS-clause-slots c = omega (arith, c.if-g-le-SOME_TERMS.true)

pub substituted_in-requires-then-f-le-SOME_TERMS-clause-places :
    goal.substituted_in-requires-then-f-le-SOME_TERMS-clause-places
unfolding most_terms
substituted_in-requires-then-f-le-SOME_TERMS-clause-places c =
    let few = c.if-g-le-SOME_TERMS.true in (omega (arith, few), omega (arith, few))

pub substituted_in-requires-then-f-le-SOME_TERMS-clause-substitution :
    goal.substituted_in-requires-then-f-le-SOME_TERMS-clause-substitution
substituted_in-requires-then-f-le-SOME_TERMS-clause-substitution c =
    asked (goal.at.substituted_in-requires-then-f-le-SOME_TERMS-clause-substitution c).In-Ok

pub returns-then-f-le-SOME_TERMS : goal.returns-then-f-le-SOME_TERMS
returns-then-f-le-SOME_TERMS c =
    answers (goal.at.returns-then-f-le-SOME_TERMS c).In-Ok c.substituted_in-then-f-le-SOME_TERMS.ensures

-- ---- of some, where f has more
pub substituted_in-requires-then-g-le-SOME_TERMS-clause-slots :
    goal.substituted_in-requires-then-g-le-SOME_TERMS-clause-slots
unfolding most_terms
substituted_in-requires-then-g-le-SOME_TERMS-clause-slots c = omega (arith, c.if-g-le-SOME_TERMS.true)

pub substituted_in-requires-then-g-le-SOME_TERMS-clause-places :
    goal.substituted_in-requires-then-g-le-SOME_TERMS-clause-places
unfolding most_terms
substituted_in-requires-then-g-le-SOME_TERMS-clause-places c =
    let few = c.if-g-le-SOME_TERMS.true in (omega (arith, few), omega (arith, few))

pub substituted_in-requires-then-g-le-SOME_TERMS-clause-substitution :
    goal.substituted_in-requires-then-g-le-SOME_TERMS-clause-substitution
substituted_in-requires-then-g-le-SOME_TERMS-clause-substitution c =
    asked (goal.at.substituted_in-requires-then-g-le-SOME_TERMS-clause-substitution c).In-Ok

pub returns-then-g-le-SOME_TERMS : goal.returns-then-g-le-SOME_TERMS
returns-then-g-le-SOME_TERMS c =
    answers (goal.at.returns-then-g-le-SOME_TERMS c).In-Ok c.substituted_in-then-g-le-SOME_TERMS.ensures

-- ---- of any number
pub substituted_in-requires-in-Ok-clause-slots : goal.substituted_in-requires-in-Ok-clause-slots
unfolding most_terms
substituted_in-requires-in-Ok-clause-slots c =
    omega (arith, few (goal.at.substituted_in-requires-in-Ok-clause-slots c).In-Ok)

pub substituted_in-requires-in-Ok-clause-places : goal.substituted_in-requires-in-Ok-clause-places
unfolding most_terms
substituted_in-requires-in-Ok-clause-places c =
    let few = few (goal.at.substituted_in-requires-in-Ok-clause-places c).In-Ok in
    (omega (arith, few), omega (arith, few))

pub substituted_in-requires-in-Ok-clause-substitution : goal.substituted_in-requires-in-Ok-clause-substitution
substituted_in-requires-in-Ok-clause-substitution c =
    asked (goal.at.substituted_in-requires-in-Ok-clause-substitution c).In-Ok

pub returns-else-g-le-SOME_TERMS : goal.returns-else-g-le-SOME_TERMS
returns-else-g-le-SOME_TERMS c = answers (goal.at.returns-else-g-le-SOME_TERMS c).In-Ok c.substituted_in-in-Ok.ensures

pub returns-in-Err : goal.returns-in-Err
returns-in-Err c =
    let e = sym c.substituting-v.ensures ∙ c.in-Err.is in
    c.refuse.ensures ∙ ap answer (sym (substitute_is _ _ _ _ ∙ is_refused _ _ _ _ e))
