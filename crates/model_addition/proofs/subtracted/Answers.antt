-- `subtracted` adds the negated second, which is sound where the second is.
use mathlib.Core.Path.{◌≡◌, sym, ◌∙◌, ap, subst}
use native.Mathlib.Omega.{arith}
use lib.Dec.{T}
use Rattle.calculus.specs.Model.{most_degree, sound}
use Rattle.calculus.specs.Refusal.{at_place}
use Rattle.calculus.specs.Operations.{negate, add, subtract}
use Rattle.model_types.specs.declared.Model.{Model}
use Rattle.model_types.specs.ModelStruct.{view, pack, answer}
use Rattle.model_types.specs.ModelStructLaws.{view_pack_sound}
use Rattle.model_unary.specs.NegateLaws.{negated_sound}
use Rattle.model_addition.proofs.subtracted.Goals as goal
use Rattle.model_addition.proofs.subtracted.Goals.{After-negated}

pub negated-requires : goal.negated-requires
negated-requires c = c.requires.second

-- the second, negated
module _ (c : After-negated) where
  turned : T (sound most_degree (negate (view c.args.b)))
  turned = negated_sound most_degree (view c.args.b) c.requires.second

  held : view c.negated.result ≡ negate (view c.args.b)
  held =
      ap view c.negated.ensures
      ∙ view_pack_sound most_degree (negate (view c.args.b)) (omega arith) turned

pub added-requires : goal.added-requires
unfolding pack negate view
added-requires c = record {
  first = c.requires.first;
  second = subst (λ v. T (sound most_degree v)) (sym (held c)) (turned c);
  vars = c.requires.vars ∙ sym (ap (λ (m : Model). m.n) c.negated.ensures);
}

pub returns : goal.returns
unfolding subtract
returns c =
    c.added.ensures ∙ ap (λ v. answer (at_place 0 (add (view c.args.a) v))) (held (goal.at.returns c).After-negated)
