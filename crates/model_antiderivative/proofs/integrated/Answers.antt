-- `integrated` lends its arrays.
use mathlib.Core.Path.{refl, ◌∙◌, ap}
use borrow.Author.Rules.{rules}
use Rattle.calculus.specs.Model.{most_terms}
use Rattle.calculus.specs.Operations.{antiderivative}
use Rattle.model_types.specs.ModelStruct.{pack}
use Rattle.model_slices.specs.HeldModels.{Room}
use Rattle.model_places.specs.LeftModelsLaws.{left_done}
use Rattle.model_antiderivative.specs.PassLaws.{own_same, own_in}
use Rattle.model_antiderivative.proofs.integrated.Goals as goal
use Rattle.model_antiderivative.proofs.integrated.Goals.{Start}

room : (c : Start) → Room c.args.f.keys c.args.f.coefficients
room c = record { keys = search rules; coefficients = search rules }

pub integrated_slices-l-requires : goal.integrated_slices-l-requires
unfolding most_terms
integrated_slices-l-requires c =
    record {
      integrand_in = own_in _ c.requires (room (goal.at.integrated_slices-l-requires c).Start);
      zeros = record { keys = refl; coefficients = refl };
    }

pub returns : goal.returns
returns c =
    left_done _ _ _ _ _ (c.integrated_slices-l.ensures (own_in c.args.f c.requires (room (goal.at.returns c).Start)))
    ∙ ap (λ m. pack (antiderivative c.args.d c.args.i m))
    (own_same c.args.f c.requires (room (goal.at.returns c).Start))
