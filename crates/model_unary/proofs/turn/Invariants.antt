-- `turn` stores one coefficient after the other, as far as the count goes.
use mathlib.Core.Path.{◌≡◌}
use Rattle.model_slices.specs.HandedModels.{over}
use Rattle.model_unary.specs.NegateLaws.{turned}
use Rattle.model_unary.proofs.turn.Given as goal

abbrev pub invariant-loop-i : goal.invariant-loop-i
invariant-loop-i l =
    l.out ≡ over (turned l.i l.coefficients) l.initial.out
