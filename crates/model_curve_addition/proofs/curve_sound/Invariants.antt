-- `curve_sound` answers by the span, which is known as far as the cap.
use Rattle.model_curve_addition.specs.CurveLoopLaws.{Summed}
use Rattle.model_curve_addition.proofs.curve_sound.Given as goal

abbrev pub invariant-loop-z : goal.invariant-loop-z
invariant-loop-z l = Summed l.fn.c l.total l.z-index
