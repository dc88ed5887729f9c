-- `integral_of` lends its arrays.
use mathlib.Core.Path.{◌∙◌, ap}
use borrow.Author.Rules.{rules}
use Rattle.calculus.specs.Refusal.{done}
use Rattle.calculus.specs.Operations.{whole_integral}
use Rattle.model_types.specs.ModelStruct.{integral_answer}
use Rattle.model_slices.specs.HeldModels.{Room}
use Rattle.model_slices.specs.HeldModelsLaws.{own_view}
use Rattle.model_places.specs.LeftModelsLaws.{few, own_lies}
use Rattle.model_integral.proofs.integral_of.Goals as goal
use Rattle.model_integral.proofs.integral_of.Goals.{Start}

room : (c : Start) → Room c.args.m.keys c.args.m.coefficients
room c = record { keys = search rules; coefficients = search rules }

pub integral_slices-requires : goal.integral_slices-requires
integral_slices-requires c =
    let w = own_lies c.args.m (room (goal.at.integral_slices-requires c).Start) c.requires in
    record {
      places = w.places;
      t = w.model;
    }

pub returns : goal.returns
returns c =
    c.integral_slices.ensures
    ∙ ap (λ m. integral_answer (done (whole_integral m)))
    (own_view c.args.m (room (goal.at.returns c).Start) (few _ (room (goal.at.returns c).Start) c.requires))
