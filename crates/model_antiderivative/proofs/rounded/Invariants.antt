-- `rounded` goes over the terms once, and sums what each adds to the radius by rounding.
use Rattle.model_antiderivative.specs.GrowthShareLaws.{Rounded}
use Rattle.model_antiderivative.proofs.rounded.Given as goal

abbrev pub invariant-loop-j : goal.invariant-loop-j
invariant-loop-j l = Rounded l.d l.i l.f l.sum l.j
