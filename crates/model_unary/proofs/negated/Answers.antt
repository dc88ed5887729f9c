-- `negated` lends its arrays.
use mathlib.Core.Path.{refl, ◌∙◌, ap}
use borrow.Author.Rules.{rules}
use Rattle.calculus.specs.Model.{most_terms}
use Rattle.calculus.specs.Operations.{negate}
use Rattle.model_types.specs.ModelStruct.{pack}
use Rattle.model_slices.specs.HeldModels.{Room}
use Rattle.model_slices.specs.HeldModelsLaws.{own_view}
use Rattle.model_places.specs.LeftModelsLaws.{left_done, few, own_lies}
use Rattle.model_unary.proofs.negated.Goals as goal
use Rattle.model_unary.proofs.negated.Goals.{Start}

room : (c : Start) → Room c.args.m.keys c.args.m.coefficients
room c = record { keys = search rules; coefficients = search rules }

pub negated_slices-l-requires : goal.negated_slices-l-requires
unfolding most_terms
negated_slices-l-requires c =
    record {
      lies = own_lies _ (room (goal.at.negated_slices-l-requires c).Start) c.requires;
      zeros = record { keys = refl; coefficients = refl };
    }

pub returns : goal.returns
returns c =
    left_done _ _ _ _ _ (c.negated_slices-l.ensures (own_lies _ (room (goal.at.returns c).Start) c.requires))
    ∙ ap (λ m. pack (negate m)) (own_view _ (room (goal.at.returns c).Start)
    (few _ (room (goal.at.returns c).Start) c.requires))
