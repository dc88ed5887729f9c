-- `row_held` makes the iterations of a row of structs, with a reading made from the slices at each.
use mathlib.Core.Path.{◌∙◌}
use Rattle.model_readings.specs.RowPassLaws.{kept, nearer, ended, begins, within_row, some_readings}
use Rattle.c_readings.specs.HandedReadingsLaws.{below_all, iteration_at, row_call}
use Rattle.c_readings.proofs.row_held.Goals as goal

pub loop-k-init : goal.loop-k-init
loop-k-init c = begins _ _ _ _ _ c.begun-s.ensures

pub nonzero_rem-i : goal.nonzero_rem-i
nonzero_rem-i c = some_readings _ _ c.loop-k-test.true

pub reading_of-r-requires : goal.reading_of-r-requires
reading_of-r-requires c = below_all _ _ c.loop-k-test.true

pub loop-k-smaller : goal.loop-k-smaller
loop-k-smaller c = nearer _ _ _ _ c.loop-k-test.true c.following-k.ensures

pub loop-k-preserved : goal.loop-k-preserved
loop-k-preserved c =
    kept _ _ _ _ _ _ _ _ c.loop-k-test.true
    (iteration_at _ _ _ _ _ _ c.iteration-s.ensures c.reading_of-r.ensures (within_row _ _ c.loop-k-test.true))
    c.following-k.ensures c.loop-k.invariant

pub returns : goal.returns
returns c =
    ended _ _ _ _ _ _ c.loop-k-test.false c.loop-k.invariant
    ∙ row_call c.args.m c.args.points.now c.args.lows.now c.args.highs.now
