-- `range_of` lends its arrays.
use mathlib.Core.Path.{◌∙◌, ap}
use borrow.Author.Rules.{rules}
use Rattle.calculus.specs.Refusal.{done}
use Rattle.calculus.specs.Operations.{range}
use Rattle.model_types.specs.ModelStruct.{bounds}
use Rattle.model_slices.specs.HeldModels.{Room}
use Rattle.model_slices.specs.HeldModelsLaws.{own_view}
use Rattle.model_places.specs.LeftModelsLaws.{few, own_lies}
use Rattle.model_range.proofs.range_of.Goals as goal
use Rattle.model_range.proofs.range_of.Goals.{Start}

room : (c : Start) → Room c.args.m.keys c.args.m.coefficients
room c = record { keys = search rules; coefficients = search rules }

pub range_slices-requires : goal.range_slices-requires
range_slices-requires c = own_lies _ (room (goal.at.range_slices-requires c).Start) c.requires

pub returns : goal.returns
returns c =
    c.range_slices.ensures (own_lies c.args.m (room (goal.at.returns c).Start) c.requires)
    ∙ ap (λ m. bounds (done (range m))) (own_view c.args.m (room (goal.at.returns c).Start)
    (few _ (room (goal.at.returns c).Start) c.requires))
