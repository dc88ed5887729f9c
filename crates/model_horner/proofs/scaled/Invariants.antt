-- `scaled` goes over the terms once: what is not 0 is stored in order, and E grows by what each term leaves.
use Rattle.model_types.specs.ModelStruct.{pad}
use Rattle.model_slices.specs.HandedModels.{terms_of}
use Rattle.model_slices.specs.HeldModels.{held, Room}
use Rattle.model_scaling.specs.ScaledPassLaws.{Gathered}
use Rattle.model_horner.specs.Held.{ScaleOf}
use Rattle.model_horner.proofs.scaled.Given as goal

abbrev pub invariant-loop-j : goal.invariant-loop-j
invariant-loop-j l =
    Room l.stored l.out × ((w : ScaleOf l.x l.total l.radius l.keys l.coefficients)
    → Gathered l.x (held w.vars l.total l.radius l.keys l.coefficients) (pad (terms_of l.count l.stored l.out)) l.count
    l.error l.j)
