-- Stepping through a sheet: what opening answers, and what each asking changes.
use Rattle.std.specs.Prelude.{List, ℕ, zero, suc}
use Rattle.std.specs.Borrow.{Bor}
use Rattle.format.specs.Format.{opened}
use Rattle.sheet_book.specs.BookStruct.{verdict}
-- what the record at a place is, its bytes, and the place of the next
unfoldable pub use Rattle.sheet_record_places.specs.Places.{kind_at, bytes_at, next_at}
use Rattle.sheet_opening.specs.Opening.{start}
-- where opening begins, with its verdict
pub use Rattle.sheet_opening.specs.Opening.{start_answer}
-- the bytes of record i, empty where there is none
unfoldable pub use Rattle.sheet_opening.specs.Opening.{record_bytes}
use Rattle.sheet_records.specs.declared.Records.{Records}
use Rattle.sheet_records.specs.declared.Opened.{Opened}

-- ---- opening
-- what opening answers: the same slice at that place
abbrev pub opening : Bor (List ℕ) → Opened
opening s =
    record { records = record { sheet = s; at = start s.now }; verdict = verdict (opened s.now) }

-- ---- stepping
-- one step on: the same slice at the next place
abbrev pub advanced : Records → Records
advanced r = record { sheet = r.sheet; at = next_at r.sheet.now r.at }

-- the bytes at hand
abbrev pub at_hand : Records → List ℕ
at_hand r = bytes_at r.sheet.now r.at

-- i steps on
unfoldable pub stepped : (i : ℕ) → Records → Records
stepped zero r = r
stepped (suc i) r = advanced (stepped i r)
