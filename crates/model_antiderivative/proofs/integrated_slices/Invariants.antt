-- `integrated_slices` goes over the terms once: what is not 0 is stored in order, and the radius grows by what each
-- term adds.
use Rattle.model_types.specs.ModelStruct.{paired}
use Rattle.model_slices.specs.HeldModels.{held, Room}
use Rattle.model_antiderivative.specs.Antiderivatives.{IntegrandIn}
use Rattle.model_antiderivative.specs.PassLaws.{Gathered}
use Rattle.model_antiderivative.proofs.integrated_slices.Given as goal

abbrev pub invariant-loop-j : goal.invariant-loop-j
invariant-loop-j l =
    Room l.stored l.out × ((w : IntegrandIn l.d l.i l.total l.start l.keys l.coefficients)
    → Gathered l.d l.i (held w.vars l.total l.start l.keys l.coefficients) (paired l.stored l.out) l.count l.radius l.j)
