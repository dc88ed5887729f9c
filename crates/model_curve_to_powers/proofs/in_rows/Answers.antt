-- `in_rows` combines the table's rows.
use mathlib.Core.Path.{◌≡◌, refl, sym, ◌∙◌}
use Prim.Native.Nat.{◌+◌, ◌^◌, ◌<◌}
use native.Mathlib.Omega.{arith}
use borrow.Author.Rules.{rules}
use lib.Dec.{T}
use lib.ListN.{length}
use Rattle.chebyshev.specs.Coefficients.{size}
use Rattle.chebyshev.specs.PowerRows.{places, zeros}
use Rattle.chebyshev.specs.Tables.{chebyshev_table}
use Rattle.model_curve_range.specs.CurveRangeLaws.{sizes_small}
use Rattle.model_curve_rows.specs.SmallRows.{each_small, rows_small}
use Rattle.model_curve_to_powers.proofs.in_rows.Goals as goal
use Rattle.model_curve_to_powers.proofs.in_rows.Goals.{Start}

module _ (c : Start) where
  whole : length c.args.c.coefficients ≡ 16
  whole = search rules

  small : size c.args.c.coefficients < 2 ^ 31
  small = omega (arith, sizes_small _ c.requires)

pub combine_rows-requires : goal.combine_rows-requires
unfolding zeros places rows_small each_small size
combine_rows-requires c =
    record {
      total_value = refl;
      cs_len = whole (goal.at.combine_rows-requires c).Start;
      cs_bound = small (goal.at.combine_rows-requires c).Start;
      t = tt;
    }

pub returns : goal.returns
unfolding chebyshev_table
returns c = c.combine_rows.ensures
