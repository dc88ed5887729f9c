-- `add_scaled` adds c times the row, place by place, from the last one down.
use Rattle.model_curve_rows.specs.SmallRowsLaws.{Scaling}
use Rattle.model_curve_rows.proofs.add_scaled.Given as goal

abbrev pub invariant-loop-j : goal.invariant-loop-j
invariant-loop-j l = Scaling l.c l.row l.initial.total l.total l.j
