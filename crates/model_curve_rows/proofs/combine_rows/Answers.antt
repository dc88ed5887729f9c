-- `combine_rows` adds each coefficient's row, from the last one down.
use mathlib.Core.Path.{◌≡◌, ◌∙◌, ap}
use mathlib.Core.List.{[]}
use Prim.Native.Nat.{◌-◌, ◌^◌, ◌<◌}
use lib.Dec.{T}
use lib.IntN.{pos}
use lib.ListN.{length, get_or}
use mir.Facts.{to_z-of_z}
use mir.Syntax.{w64}
use mir.Val.{to_z, of_z}
use Rattle.chebyshev.specs.Coefficients.{sum, scale, size}
use Rattle.model_curve_rows.specs.SmallRows.{rows_small}
use Rattle.model_curve_rows.specs.SmallRowsLaws.{combining_first, combining_iteration}
use Rattle.model_curve_rows.specs.SmallRowsLaws.{row_inside, row_long, row_room}
use Rattle.model_curve_rows.proofs.combine_rows.Goals as goal
use Rattle.model_curve_rows.proofs.combine_rows.Goals.{After-c-1, In-loop-k, Start}

module _ (c : Start) where
  whole : length c.args.cs.now ≡ 16
  whole = c.requires.cs_len

  small : size c.args.cs.now < 2 ^ 31
  small = c.requires.cs_bound

  fit : T (rows_small c.args.rows.now)
  fit = c.requires.t

pub loop-k-init : goal.loop-k-init
loop-k-init c = combining_first _ _ (whole c) (small c) (fit c) _ c.requires.total_value

-- the row at hand
module _ (c : In-loop-k) where
  within : c.loop-k.k - 1 < 16
  within = row_inside _ _ (whole c.before.before) (small c.before.before) (fit c.before.before) _ _ c.loop-k.invariant
      c.loop-k-test.true

c_is : (c : After-c-1)
    → let z = get_or c.args.cs.now (c.loop-k.k - 1) (pos 0) in to_z w64 (of_z w64 z) ≡ z
c_is c = to_z-of_z {w = w64} (record { sfits = c.c-1.given })

pub add_scaled-requires : goal.add_scaled-requires
add_scaled-requires c =
    let h = c.loop-k-test.true in record {
      total_len = c.loop-k.invariant.long;
      row_len = row_long _ _ (whole (goal.at.add_scaled-requires c).Start) (small (goal.at.add_scaled-requires c).Start)
          (fit (goal.at.add_scaled-requires c).Start) _ _ c.loop-k.invariant h;
      total_bound = rw (c_is (goal.at.add_scaled-requires c).After-c-1)
          (row_room _ _ (whole (goal.at.add_scaled-requires c).Start) (small (goal.at.add_scaled-requires c).Start)
          (fit (goal.at.add_scaled-requires c).Start) _ _ c.loop-k.invariant h);
    }

pub loop-k-preserved : goal.loop-k-preserved
loop-k-preserved c =
    combining_iteration _ _ (whole (goal.at.loop-k-preserved c).Start) (small (goal.at.loop-k-preserved c).Start)
    (fit (goal.at.loop-k-preserved c).Start) _ _ c.loop-k.invariant c.loop-k-test.true _
    (c.add_scaled.ensures
    ∙ ap (λ z. sum (scale z (get_or c.args.rows.now (c.loop-k.k - 1) [])) c.loop-k.total)
    (c_is (goal.at.loop-k-preserved c).After-c-1))
