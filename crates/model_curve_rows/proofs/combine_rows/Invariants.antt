-- `combine_rows` adds each coefficient's row, from the last one down.
use Rattle.model_curve_rows.specs.SmallRowsLaws.{Combining}
use Rattle.model_curve_rows.proofs.combine_rows.Given as goal

abbrev pub invariant-loop-k : goal.invariant-loop-k
invariant-loop-k l = Combining l.cs l.rows l.total l.k
