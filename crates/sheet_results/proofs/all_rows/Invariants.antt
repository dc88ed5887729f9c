-- `all_rows` builds one row after the other.
use mathlib.Core.Path.{◌≡◌}
use Rattle.model_types.specs.Arrays.{padded}
use Rattle.calculus.specs.Shares.{no_shares}
use Rattle.model_types.specs.SharesStruct.{stored_shares}
use Rattle.sheet_results.specs.Results.{first_rows}
use Rattle.sheet_results.proofs.all_rows.Given as goal

abbrev pub invariant-loop-i : goal.invariant-loop-i
invariant-loop-i l = l.shares ≡ padded (stored_shares no_shares) 64 (first_rows l.flat l.i)
