-- `degrees_from` combines the table's rows, and puts the coefficients into their places.
use mathlib.Core.Path.{◌≡◌, refl, sym, ◌∙◌, ap}
use Prim.Native.Nat.{◌+◌, ◌-◌, ◌^◌, ◌<◌}
use native.Mathlib.Omega.{arith}
use borrow.Author.Rules.{rules}
use lib.Dec.{T}
use lib.IntN.{pos}
use lib.ListN.{length, get_or}
use mir.Facts.{to_z-of_z}
use mir.Syntax.{w64}
use mir.Val.{to_z, of_z}
use Rattle.chebyshev.specs.Coefficients.{Row, size}
use Rattle.chebyshev.specs.PowerRows.{places, zeros, combine}
use Rattle.chebyshev.proofs.RowLengthLaws.{from_powers_length}
use Rattle.chebyshev.specs.Tables.{power_table}
use Rattle.model_types.specs.Arrays.{padded}
use Rattle.model_curve_rows.specs.SmallRows.{rows_small}
use Rattle.model_curve_rows.specs.SmallRowsLaws.{power_fits}
use Rattle.model_curve_from_powers.specs.FillLaws.{Filled, filled_first, filled_iteration, filled_end}
use Rattle.model_curve_from_powers.proofs.degrees_from.Given as goal

abbrev pub invariant-loop-i : goal.invariant-loop-i
invariant-loop-i l = Filled l.total l.out l.i
