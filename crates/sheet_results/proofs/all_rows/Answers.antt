-- `all_rows` builds one row after the other.
use mathlib.Core.Path.{◌≡◌, refl, ◌∙◌, ap}
use native.Mathlib.Omega.{arith}
use lib.ListN.{set}
use Rattle.model_types.specs.Arrays.{padded}
use Rattle.calculus.specs.Book.{most_steps}
use Rattle.calculus.specs.Shares.{no_shares}
use Rattle.model_types.specs.SharesStruct.{stored_shares}
use Rattle.sheet_results.specs.Results.{row_at, first_rows}
use Rattle.sheet_results.specs.RowsLaws.{rows_more, rows_end}
use Rattle.sheet_results.proofs.all_rows.Goals as goal

pub loop-i-init : goal.loop-i-init
unfolding padded first_rows stored_shares no_shares
loop-i-init c = refl

pub loop-i-preserved : goal.loop-i-preserved
unfolding row_at
loop-i-preserved c =
    ap (λ r. set r c.loop-i.i (row_at c.args.flat.now c.loop-i.i)) c.loop-i.invariant
    ∙ rows_more (stored_shares no_shares) c.args.flat.now c.loop-i.i (omega arith)

pub returns : goal.returns
unfolding most_steps
returns c =
    let e : c.loop-i.i ≡ 64 = omega arith in
    c.loop-i.invariant ∙ ap (λ i. padded (stored_shares no_shares) 64 (first_rows c.args.flat.now i)) e
    ∙ rows_end (stored_shares no_shares) c.args.flat.now
