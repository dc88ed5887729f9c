-- `record` goes from the start from record to record.
use mathlib.Core.Path.{◌≡◌, sym, ◌∙◌, ap}
use Prim.Native.Nat.{◌-◌, ◌≤◌}
use native.Mathlib.Omega.{arith}
use Rattle.sheet_record_places.specs.Places.{bytes_at}
use Rattle.sheet_opening.specs.Opening.{place_after, asked}
use Rattle.sheet_opening.specs.HandedOutLaws.{asked_bytes, record_none, first_place, place_more}
use borrow.Author.Rules.{rules}
use Rattle.sheet_opening.proofs.record.Given as goal

abbrev pub invariant-loop-k : goal.invariant-loop-k
invariant-loop-k l = l.at ≡ place_after l.sheet l._k
