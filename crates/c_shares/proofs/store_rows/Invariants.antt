-- `store_rows` stores one row after the other.
use mathlib.Core.Path.{◌≡◌, refl}
use Prim.Native.Nat.{◌+◌, ◌*◌, ◌-◌, ◌≤◌, ◌<◌}
use native.Mathlib.Omega.{arith}
use borrow.Author.Rules.{rules}
use lib.ListN.{length, take, length-map, length-set}
use lib.Seq.{take_all}
use Rattle.model_slices.specs.HandedModels.{over}
use Rattle.c_shares.specs.HandedShares.{row_numbers, stored_rows}
use Rattle.c_shares.specs.HandedSharesLaws.{rows_more}
use Rattle.c_shares.proofs.store_rows.Given as goal

abbrev pub invariant-loop-i : goal.invariant-loop-i
invariant-loop-i l =
    l.out ≡ over (row_numbers (take l.i l.r.shares)) l.initial.out
