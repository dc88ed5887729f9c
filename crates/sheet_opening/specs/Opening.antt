-- Opening a sheet, and where asking again leads, by places; the records by their numbers.
use Rattle.std.specs.Prelude.{cond, List, [], ◌∷◌, ℕ, zero, suc, ◌+◌, ltb, length}
use Rattle.std.proofs.Math.Option.{Option, none, some}
use Rattle.calculus.specs.Refusal.{Result, done, stopped}
use Rattle.format.specs.Format.{opened, handed_out}
use Rattle.sheet_book.specs.BookStruct.{verdict}
use Rattle.sheet_book.specs.declared.Start.{Start}
use Rattle.sheet_book.specs.declared.Kind.{Kind}
use Rattle.sheet_book.specs.declared.Kind.TheVariants.{Model, Step, End}
use Rattle.sheet_record_places.specs.Places.{next_at, bytes_at}

-- ---- opening
-- stepping begins at 0, or where the opening is refused at the end
unfoldable pub start_of : {A : Type 0} → Result A → (end : ℕ) → ℕ
start_of (done a) end = 0
start_of (stopped r i) end = end

-- of a sheet
unfoldable pub start : List ℕ → ℕ
start s = start_of (opened s) (length s)

-- with the verdict of tests 1 to 6
abbrev pub start_answer : List ℕ → Start
start_answer s = record { at = start s; verdict = verdict (opened s) }

-- ---- asking again
-- where i steps lead from the start
unfoldable pub place_after : List ℕ → (i : ℕ) → ℕ
place_after s zero = start s
place_after s (suc i) = next_at s (place_after s i)

-- the bytes that the i-th asking hands out, counted from 0
unfoldable pub asked : List ℕ → (i : ℕ) → List ℕ
asked s i = bytes_at s (place_after s i)

-- no record is empty, so empty bytes say that there is none
unfoldable pub if_any : List ℕ → Option (List ℕ)
if_any [] = none
if_any (b ∷ s) = some (b ∷ s)

-- the bytes of what is handed out, empty where that is none
unfoldable pub bytes_of : Option (List ℕ) → List ℕ
bytes_of none = []
bytes_of (some s) = s

-- of record i
unfoldable pub record_bytes : List ℕ → (i : ℕ) → List ℕ
record_bytes s i = bytes_of (handed_out s i)

-- record i of a book with so many models and steps: first the models, then the steps, after these none
unfoldable pub kind_of : (models steps : ℕ) → (i : ℕ) → Kind
kind_of models steps i = cond (ltb i models) Model (cond (ltb i (models + steps)) Step End)
