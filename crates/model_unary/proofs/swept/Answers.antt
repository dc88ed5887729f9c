-- `swept` lends its arrays.
use mathlib.Core.Path.{refl, ◌∙◌, ap}
use borrow.Author.Rules.{rules}
use Rattle.calculus.specs.Model.{most_terms}
use Rattle.calculus.specs.Operations.{sweep}
use Rattle.model_types.specs.ModelStruct.{pack}
use Rattle.model_slices.specs.HeldModels.{Room}
use Rattle.model_slices.specs.HeldModelsLaws.{own_view}
use Rattle.model_places.specs.LeftModelsLaws.{left_done, few, own_lies}
use Rattle.model_unary.proofs.swept.Goals as goal
use Rattle.model_unary.proofs.swept.Goals.{Start}

room : (c : Start) → Room c.args.m.keys c.args.m.coefficients
room c = record { keys = search rules; coefficients = search rules }

pub swept_slices-l-requires : goal.swept_slices-l-requires
unfolding most_terms
swept_slices-l-requires c =
    record {
      lies = own_lies _ (room (goal.at.swept_slices-l-requires c).Start) c.requires;
      zeros = record { keys = refl; coefficients = refl };
    }

pub returns : goal.returns
returns c =
    left_done _ _ _ _ _ (c.swept_slices-l.ensures (own_lies c.args.m (room (goal.at.returns c).Start) c.requires))
    ∙ ap (λ m. pack (sweep c.args.threshold m)) (own_view c.args.m (room (goal.at.returns c).Start)
    (few _ (room (goal.at.returns c).Start) c.requires))
