use native.Mathlib.Omega.{arith}
use Rattle.sheet_record_places.specs.Places.{length_at}
use borrow.Author.Rules.{rules}
use Rattle.sheet_record_places.proofs.length_at.Reads as reads
use Rattle.sheet_record_places.proofs.length_at.Lts as lts
use Rattle.sheet_record_places.proofs.size_at.Reads as size-at-reads
use Rattle.sheet_record_places.proofs.length_at.Goals as goal

pub returns-then-length-lt-TRAILER_BYTES : goal.returns-then-length-lt-TRAILER_BYTES
unfolding length_at
returns-then-length-lt-TRAILER_BYTES c = omega arith

pub returns-then-end-at : goal.returns-then-end-at
unfolding length_at
returns-then-end-at c = omega arith

pub returns : goal.returns
unfolding length_at
returns c = omega (arith, c.size_at.ensures, c.min.ensures)
