-- `store_rows` stores one row after the other.
use mathlib.Core.Path.{◌≡◌, refl}
use Prim.Native.Nat.{◌+◌, ◌*◌, ◌-◌, ◌≤◌, ◌<◌}
use native.Mathlib.Omega.{arith}
use borrow.Author.Rules.{rules}
use lib.ListN.{length, take, length-map, length-set}
use lib.Seq.{take_all}
use Rattle.model_slices.specs.HandedModels.{over}
use Rattle.c_shares.specs.HandedShares.{row_numbers, stored_rows}
use Rattle.c_shares.specs.HandedSharesLaws.{rows_more}
use Rattle.c_shares.proofs.store_rows.Goals as goal
use Rattle.c_shares.proofs.store_rows.Goals.{In-loop-i, Start}

whole : (c : Start) → length c.args.r.shares ≡ 64
whole c = c.well_formed.0.1.1.1.0.1.0.1

pub loop-i-init : goal.loop-i-init
unfolding over row_numbers
loop-i-init c = refl

-- the slice has the four places of a row
room : (c : In-loop-i) → 4 * c.loop-i.i + 3 < length c.loop-i.out
room c = omega (arith, c.loop-i-test.true, c.loop-i.auto.out, c.requires)

pub bounds-out-at-in-loop-i : goal.bounds-out-at-in-loop-i
bounds-out-at-in-loop-i c = simp length-set (omega (arith, room (goal.at.bounds-out-at-in-loop-i c).In-loop-i))

pub bounds-out-at-in-loop-i-2 : goal.bounds-out-at-in-loop-i-2
bounds-out-at-in-loop-i-2 c = simp length-set (omega (arith, room (goal.at.bounds-out-at-in-loop-i-2 c).In-loop-i))

pub bounds-out-at-in-loop-i-3 : goal.bounds-out-at-in-loop-i-3
bounds-out-at-in-loop-i-3 c = simp length-set (omega (arith, room (goal.at.bounds-out-at-in-loop-i-3 c).In-loop-i))

pub loop-i-preserved : goal.loop-i-preserved
loop-i-preserved c =
    let h = c.loop-i.invariant in
    let i = c.loop-i.i in
    rw h (rows_more c.args.r.shares c.args.out.now i (omega (arith, whole (goal.at.loop-i-preserved c).Start))
    (omega (arith, room (goal.at.loop-i-preserved c).In-loop-i)))

pub returns : goal.returns
unfolding stored_rows
returns c =
    let all = take_all c.loop-i.i c.args.r.shares (omega (arith, whole (goal.at.returns c).Start)) in
    rw (c.loop-i.invariant, all)
