-- `degrees_from` combines the table's rows, and puts the coefficients into their places.
use mathlib.Core.Path.{◌≡◌, refl, sym, ◌∙◌, ap}
use Prim.Native.Nat.{◌+◌, ◌-◌, ◌^◌, ◌<◌}
use native.Mathlib.Omega.{arith}
use borrow.Author.Rules.{rules}
use lib.Dec.{T}
use lib.IntN.{pos}
use lib.ListN.{length, get_or}
use mir.Facts.{to_z-of_z}
use mir.Syntax.{w64}
use mir.Val.{to_z, of_z}
use Rattle.chebyshev.specs.Coefficients.{Row, size}
use Rattle.chebyshev.specs.PowerRows.{places, zeros, combine}
use Rattle.chebyshev.proofs.RowLengthLaws.{from_powers_length}
use Rattle.chebyshev.specs.Tables.{power_table}
use Rattle.model_types.specs.Arrays.{padded}
use Rattle.model_curve_rows.specs.SmallRows.{rows_small}
use Rattle.model_curve_rows.specs.SmallRowsLaws.{power_fits}
use Rattle.model_curve_from_powers.specs.FillLaws.{Filled, filled_first, filled_iteration, filled_end}
use Rattle.model_curve_from_powers.proofs.degrees_from.Goals as goal
use Rattle.model_curve_from_powers.proofs.degrees_from.Goals.{After-combine_rows, Start}

whole : (c : Start) → length c.args.c.coefficients ≡ 16
whole c = search rules

pub combine_rows-requires : goal.combine_rows-requires
unfolding zeros places power_table
combine_rows-requires c =
    record {
      total_value = refl;
      cs_len = whole (goal.at.combine_rows-requires c).Start;
      cs_bound = c.requires;
      t = power_fits;
    }

module _ (c : After-combine_rows) where
  combined : c.combine_rows.new.total ≡ combine c.args.c.coefficients power_table
  unfolding power_table
  combined = c.combine_rows.ensures

  long : length c.combine_rows.new.total ≡ 16
  unfolding places
  long = ap length combined ∙ from_powers_length c.args.c.coefficients

pub loop-i-init : goal.loop-i-init
loop-i-init c = filled_first _ (long c)

pub offset_bounds-total-i : goal.offset_bounds-total-i
offset_bounds-total-i c = omega (arith, c.loop-i-test.true)

pub bounds-total-i : goal.bounds-total-i
bounds-total-i c = omega (arith, c.loop-i-test.true)

pub offset_bounds-out-i : goal.offset_bounds-out-i
offset_bounds-out-i c = omega (arith, c.loop-i-test.true)

pub bounds-out-i : goal.bounds-out-i
bounds-out-i c = omega (arith, c.loop-i-test.true)

pub loop-i-preserved : goal.loop-i-preserved
loop-i-preserved c =
    filled_iteration _ (long (goal.at.loop-i-preserved c).After-combine_rows) _ _ _ c.loop-i.invariant
    c.loop-i-test.true
    (to_z-of_z {w = w64} (record { sfits = c.z-1.given }))

pub returns : goal.returns
returns c =
    filled_end _ (long (goal.at.returns c).After-combine_rows) _ _ c.loop-i.invariant c.loop-i-test.false
    ∙ ap (padded (pos 0) 31) (combined (goal.at.returns c).After-combine_rows)
