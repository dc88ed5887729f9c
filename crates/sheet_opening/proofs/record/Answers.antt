-- `record` goes from the start from record to record.
use mathlib.Core.Path.{◌≡◌, sym, ◌∙◌, ap}
use Prim.Native.Nat.{◌-◌, ◌≤◌}
use native.Mathlib.Omega.{arith}
use Rattle.sheet_record_places.specs.Places.{bytes_at}
use Rattle.sheet_opening.specs.Opening.{place_after, asked}
use Rattle.sheet_opening.specs.HandedOutLaws.{asked_bytes, record_none, first_place, place_more}
use borrow.Author.Rules.{rules}
use Rattle.sheet_opening.proofs.record.Goals as goal

pub returns-then-count-i : goal.returns-then-count-i
returns-then-count-i c =
    let a = c.args in
    let n = c.record_count-count.ensures in
    sym (record_none a.sheet.now a.i (omega arith))

pub loop-k-init : goal.loop-k-init
loop-k-init c =
    let n = c.record_count-count.ensures in
    first_place c.args.sheet.now (omega arith)

pub loop-k-preserved : goal.loop-k-preserved
loop-k-preserved c =
    let s = c.args.sheet.now in
    let l = c.loop-k in
    place_more s l._k l.at _ l.invariant c.next_at-at.ensures

pub returns : goal.returns
unfolding asked
returns c =
    let a = c.args in
    let s = a.sheet.now in
    let l = c.loop-k in
    let known = c.shared_slice_known-1.given in
    let e : l._k ≡ a.i = omega (arith, c.loop-k-test.false, l.auto._k-end) in
    c.bytes_at.ensures ∙ ap (bytes_at s) l.invariant ∙ ap (asked s) e
    ∙ asked_bytes s (record { below = λ i. (known i).fits }) a.i
