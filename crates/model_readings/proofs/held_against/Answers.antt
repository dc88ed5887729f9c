-- `held_against`: an iteration takes one off what is left.
use mathlib.Core.Path.{◌≡◌, ap, ◌∙◌}
use Prim.Native.Nat.{◌*◌, ◌%◌}
use lib.ListN.{length}
use Rattle.std.proofs.lemmas.List.{get_or_default}
use Rattle.model_readings.specs.RowIterationLaws.{pass_call}
use Rattle.model_readings.specs.RowIterations.{no_reading, iteration_of, iteration_count}
use Rattle.model_readings.specs.RowPassLaws.{kept, nearer, next_within, ended, within_row}
use Rattle.model_readings.proofs.held_against.Goals as goal

pub loop-k-smaller : goal.loop-k-smaller
loop-k-smaller c =
    nearer c.iteration-s.result c.loop-k.k (length c.args.rows.now % 257 * 4) c.following-k.result c.loop-k-test.true
    c.following-k.ensures

pub loop-k-preserved : goal.loop-k-preserved
loop-k-preserved c = (
  next_within c.iteration-s.result c.loop-k.k (length c.args.rows.now % 257 * 4) c.following-k.result
      c.following-k.ensures,
  kept c.args.m c.args.rows.now (length c.args.rows.now % 257 * 4) c.loop-k.k c.loop-k.s c.iteration-s.result _
      c.following-k.result c.loop-k-test.true
      (c.iteration-s.ensures
      ∙ ap (iteration_of c.args.m c.loop-k.s c.loop-k.k (length c.args.rows.now))
      (get_or_default c.args.rows.now (c.loop-k.k % length c.args.rows.now) _ no_reading
      (within_row (length c.args.rows.now) c.loop-k.k c.loop-k-test.true)))
      c.following-k.ensures c.loop-k.invariant.1,
)

pub returns : goal.returns
unfolding iteration_count
returns c =
    ended c.args.m c.args.rows.now (length c.args.rows.now % 257 * 4) c.loop-k.k c.loop-k.s _ c.loop-k-test.false
    c.loop-k.invariant.1
    ∙ pass_call c.args.m c.args.rows.now
