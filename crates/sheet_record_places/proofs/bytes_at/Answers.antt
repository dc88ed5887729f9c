use mathlib.Core.Path.{◌≡◌, sym, ◌∙◌, ap}
use Prim.Native.Nat.{◌+◌, ◌-◌}
use native.Mathlib.Omega.{arith}
use lib.ListN.{drop, take}
use Rattle.sheet_record_places.specs.Places.{length_at, bytes_at}
use borrow.Author.Rules.{rules}
use Rattle.sheet_record_places.proofs.bytes_at.Reads as reads
use Rattle.sheet_record_places.proofs.bytes_at.Lts as lts
use Rattle.sheet_record_places.proofs.length_at.Reads as length-at-reads
use Rattle.sheet_record_places.proofs.bytes_at.Goals as goal

pub returns-then-length-eq0 : goal.returns-then-length-eq0
unfolding bytes_at
returns-then-length-eq0 c =
    let a = c.args in
    ap (λ k. take k (drop a.at a.s.now)) (sym c.if-length-eq0.true ∙ c.length_at-length.ensures)

pub overflow_add-next : goal.overflow_add-next
unfolding length_at
overflow_add-next c = omega (arith, c.length_at-length.ensures)

pub slice_bounds-result-end-2 : goal.slice_bounds-result-end-2
unfolding length_at
slice_bounds-result-end-2 c = omega (arith, c.length_at-length.ensures)

pub returns : goal.returns
unfolding bytes_at
returns c =
    let a = c.args in
    let e = c.length_at-length.ensures in
    let k : a.at + c.length_at-length.result - a.at ≡ length_at a.s.now a.at = omega arith in
    ap (λ k. take k (drop a.at a.s.now)) k
