-- `from_doubles` takes the doubles apart, makes the tests in order, then the model.
use mathlib.Core.Path.{◌≡◌, sym, ◌∙◌, ap, subst}
use borrow.Author.Rules.{rules}
use borrow.Author.Tests.{not-true, not-false}
use lib.Ieee.{of_bits, of_fields, odd}
use Rattle.calculus.specs.Refusal.{at_place}
use Rattle.calculus.specs.Operations.{limited}
use Rattle.doubles.specs.Doubles.{is_negative}
use Rattle.model_types.specs.ModelStruct.{cause, view, answer}
use Rattle.model_limits.specs.Limits.{Packed}
use Rattle.model_doubles.specs.DoubleParts.{Moderate}
use Rattle.model_doubles.specs.DoublesCallLaws.{tests, not_delivered, one_huge, answered_by, parts_packed}
use Rattle.model_doubles.specs.DoublesCallLaws.{moderate_by}
use Rattle.model_doubles.proofs.from_doubles.Goals as goal
use Rattle.model_doubles.proofs.from_doubles.Goals.{After-deliverable, Else-not-moderate}

-- the parts
module _ (c : After-deliverable) where
  delivered_is : c.deliverable.result
      ≡ tests c.args.d c.taken_apart-a.result c.taken_apart-b.result c.taken_apart-c.result
      c.taken_apart-e.result c.taken_apart-a.ensures c.taken_apart-b.ensures
      c.taken_apart-c.ensures c.taken_apart-e.ensures
  unfolding is_negative of_bits of_fields odd
  delivered_is = c.deliverable.ensures

pub returns-then-not-deliverable : goal.returns-then-not-deliverable
unfolding cause
returns-then-not-deliverable c =
    c.refuse.ensures
    ∙ not_delivered _ _ _ _ _ c.taken_apart-a.ensures c.taken_apart-b.ensures c.taken_apart-c.ensures
    c.taken_apart-e.ensures (sym (delivered_is (goal.at.returns-then-not-deliverable c).After-deliverable)
    ∙ c.if-not-deliverable.true)

pub returns-then-not-moderate : goal.returns-then-not-moderate
unfolding cause
returns-then-not-moderate c =
    c.refuse-then-not-moderate.ensures
    ∙ one_huge _ _ _ _ _ c.taken_apart-a.ensures c.taken_apart-b.ensures c.taken_apart-c.ensures
    c.taken_apart-e.ensures (sym (delivered_is (goal.at.returns-then-not-moderate c).After-deliverable)
    ∙ c.if-not-deliverable.false)
    (sym c.moderate.ensures ∙ c.if-not-moderate.true)

-- none is too large
module _ (c : Else-not-moderate) where
  is_moderate : Moderate c.taken_apart-a.result c.taken_apart-b.result c.taken_apart-c.result
      c.taken_apart-e.result
  is_moderate = moderate_by _ _ _ _ c.taken_apart-a.ensures.few c.taken_apart-b.ensures.few
      c.taken_apart-c.ensures.few c.taken_apart-e.ensures.few
      (sym c.moderate.ensures ∙ c.if-not-moderate.false)

pub joined-requires : goal.joined-requires
joined-requires c = is_moderate c

pub limited-requires : goal.limited-requires
limited-requires c =
    subst Packed (sym c.joined.ensures) (parts_packed c.taken_apart-a.result c.taken_apart-b.result
    c.taken_apart-c.result c.taken_apart-e.result)

pub returns : goal.returns
returns c =
    c.limited.ensures
    ∙ ap (λ h. answer (at_place 0 (limited (view h)))) c.joined.ensures
    ∙ answered_by _ _ _ _ _ c.taken_apart-a.ensures c.taken_apart-b.ensures
    c.taken_apart-c.ensures c.taken_apart-e.ensures
    (sym (delivered_is (goal.at.returns c).After-deliverable) ∙ c.if-not-deliverable.false)
    (is_moderate (goal.at.returns c).Else-not-moderate)
