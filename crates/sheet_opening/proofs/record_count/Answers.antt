-- `record_count` makes the tests, and reads the counts of a sheet that passes them.
use mathlib.Core.Path.{◌≡◌, sym, ◌∙◌, ap}
use Prim.Native.Nat.{◌≤◌}
use native.Mathlib.Omega.{arith}
use borrow.Author.Rules.{rules}
use lib.ListN.{length}
use Rattle.format.specs.Format.{read}
use Rattle.std.specs.Prelude.{Ok}
use Rattle.sheet_book.specs.BookStruct.{verdict}
use Rattle.sheet_opening.specs.OpeningLaws.{has_book, accepted_long, count_accepted, value_refused}
use Rattle.sheet_opening.proofs.record_count.Goals as goal
use Rattle.sheet_opening.proofs.record_count.Goals.{In-Ok}

-- what is known where the sheet is accepted: it has room for a trailer
accepted : (c : In-Ok)
    → verdict (read c.args.sheet.now) ≡ Ok tt
accepted c = sym c.tested-verdict.ensures ∙ c.in-Ok.is

long : (c : In-Ok) → 16 ≤ length c.args.sheet.now
long c = accepted_long c.args.sheet.now
    (record { below = λ i. (c.shared_slice_known-1.given i).fits }) (accepted c)

pub overflow_sub-end : goal.overflow_sub-end
overflow_sub-end c = omega (arith, long c)

pub trailer_at-t-requires : goal.trailer_at-t-requires
trailer_at-t-requires c = omega (arith, long c)

pub returns-in-Ok : goal.returns-in-Ok
returns-in-Ok c =
    let s = c.args.sheet.now in
    count_accepted s (has_book s (accepted (goal.at.returns-in-Ok c).In-Ok)) _ c.trailer_at-t.ensures

pub returns-in-Err : goal.returns-in-Err
returns-in-Err c =
    let s = c.args.sheet.now in
    let v = sym c.tested-verdict.ensures ∙ c.in-Err.is in
    sym (ap length (value_refused s _ _ v))
