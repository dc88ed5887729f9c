-- `swept_slices` keeps the terms that are not small, in order, and adds the others to the radius.
use Rattle.model_types.specs.ModelStruct.{paired}
use Rattle.model_slices.specs.HeldModels.{held, Room}
use Rattle.model_places.specs.LeftModels.{Lies}
use Rattle.model_unary.specs.SweepLaws.{Swept}
use Rattle.model_unary.proofs.swept_slices.Given as goal

abbrev pub invariant-loop-i : goal.invariant-loop-i
invariant-loop-i l =
    Room l.stored l.out × ((w : Lies l.total l.start l.keys l.coefficients)
    → Swept l.threshold (held w.vars l.total l.start l.keys l.coefficients) (paired l.stored l.out) l.count l.radius
    l.i)
