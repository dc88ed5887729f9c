-- `range_slices` counts the terms in one walk; all its sums are within the span.
use Rattle.model_slices.specs.HeldModels.{held}
use Rattle.model_places.specs.LeftModels.{Lies}
use Rattle.model_range.specs.RangeLoopLaws.{Counted}
use Rattle.model_range.proofs.range_slices.Given as goal

abbrev pub invariant-loop-i : goal.invariant-loop-i
invariant-loop-i l =
    (w : Lies l.count l.radius l.keys l.coefficients)
    → Counted (held w.vars l.count l.radius l.keys l.coefficients) l.middle l.below l.above l.i
