-- `in_powers` keeps the terms that are not zero, and tests their span.
use mathlib.Core.Path.{◌≡◌, refl, sym, ◌∙◌, ap, subst}
use mathlib.Core.List.{[], ◌∷◌, map}
use Prim.Native.Nat.{◌+◌, ◌*◌, ◌-◌, ◌^◌, ◌≤◌, ◌<◌}
use native.Mathlib.Omega.{arith}
use borrow.Author.Rules.{rules}
use lib.IntN.{ℤ, nat_abs, pos}
use lib.ListN.{length, get_or}
use mir.Facts.{to_z-of_z}
use mir.Syntax.{w64}
use mir.Val.{to_z, of_z}
use Rattle.calculus.specs.Key.{key, key_width}
use Rattle.calculus.specs.Model.{most_terms}
use Rattle.chebyshev.specs.Coefficients.{Row, size}
use Rattle.chebyshev.specs.PowerRows.{places, combine}
use Rattle.chebyshev.proofs.RowLengthLaws.{into_powers_length}
use Rattle.chebyshev.specs.Tables.{chebyshev_table}
use Rattle.model_types.specs.Arrays.{padded}
use Rattle.model_types.specs.declared.Model.{Model}
use Rattle.std.specs.Prelude.{Ok}
use Rattle.model_types.specs.ModelStruct.{cause, paired}
use Rattle.model_types.specs.PairedLaws.{Listed, listed_put, listed_struct}
use Rattle.model_curve_range.specs.CurveRangeLaws.{sizes_small}
use Rattle.model_curve_rows.specs.SmallRowsLaws.{entry_le, into_powers_size}
use Rattle.model_curve_to_powers.specs.PowerLoopLaws.{Converted, converted_first, converted_drop, converted_keep}
use Rattle.model_curve_to_powers.specs.PowerLoopLaws.{powers_within, powers_over}
use Rattle.model_curve_to_powers.proofs.in_powers.Given as goal

abbrev pub invariant-loop-i : goal.invariant-loop-i
invariant-loop-i l =
    Listed l.keys l.coefficients (paired l.keys l.coefficients)
    × Converted l.row.places l.radius (paired l.keys l.coefficients) l.count l.span l.i
