-- The struct hands out the records of its sheet in order and after these none; of a refused sheet it hands out none.
use Rattle.std.specs.Prelude.{◌≡◌, refl, List, ℕ, zero, suc, length}
use Rattle.std.proofs.Common.{◌∙◌, ap, arith}
use Rattle.std.specs.Borrow.{Bor}
use Rattle.calculus.specs.Refusal.{Refusal, done, stopped}
use Rattle.format.specs.Bytes.{AllBytes}
use Rattle.format.specs.HeldBook.{HeldBook}
use Rattle.format.specs.Format.{read, handed_out}
use Rattle.sheet_book.specs.declared.Kind.TheVariants.{End}
use Rattle.sheet_record_places.specs.Places.{next_at, kind_at}
use Rattle.sheet_record_places.specs.PlacesLaws.{kind_none}
use Rattle.sheet_opening.specs.Opening.{place_after, asked, if_any, kind_of}
use Rattle.sheet_opening.specs.HandedOutLaws.{kind_walked, asked_hands_out, place_end}
-- the verdict says the number of document 01's table, and the place; no record is empty
pub use Rattle.sheet_opening.specs.OpeningLaws.{opening_number, opening_place}
pub use Rattle.sheet_opening.specs.HandedOutLaws.{not_empty}
use Rattle.sheet_records.specs.declared.Records.{Records}
use Rattle.sheet_records.specs.Records.{opening, advanced, at_hand, stepped}

-- opened, and advanced i times
stepped_on : (s : Bor (List ℕ)) (p : ℕ) (r : Records) → r ≡ record { sheet = s; at = p }
    → advanced r ≡ record { sheet = s; at = next_at s.now p }
stepped_on s p r e = ap advanced e

pub stepped_at : (s : Bor (List ℕ)) (i : ℕ)
    → stepped i (opening s).records ≡ record { sheet = s; at = place_after s.now i }
unfolding stepped place_after
stepped_at s zero = refl
stepped_at s (suc i) = stepped_on s (place_after s.now i) _ (stepped_at s i)

pub stepping_hands_out : (s : Bor (List ℕ)) → AllBytes s.now → (i : ℕ)
    → if_any (at_hand (stepped i (opening s).records)) ≡ handed_out s.now i
unfolding asked
stepping_hands_out s y i = ap (λ r. if_any (at_hand r)) (stepped_at s i) ∙ asked_hands_out s.now y i

-- the kind of record that the struct has at hand after i steps
pub stepping_kind : (s : Bor (List ℕ)) (h : HeldBook) → AllBytes s.now → read s.now ≡ done h → (i : ℕ)
    → kind_at s.now (stepped i (opening s).records).at ≡ kind_of (length h.models) (length h.steps) i
stepping_kind s h y e i = ap (λ r. kind_at s.now r.at) (stepped_at s i) ∙ kind_walked s.now h y e i

-- a refused sheet has none
pub stepping_none : (s : Bor (List ℕ)) (x : Refusal) (p : ℕ) → read s.now ≡ stopped x p → (i : ℕ)
    → kind_at s.now (stepped i (opening s).records).at ≡ End
stepping_none s x p e i = ap (λ r. kind_at s.now r.at) (stepped_at s i)
    ∙ ap (kind_at s.now) (place_end s.now x p e i) ∙ kind_none s.now (length s.now) (omega arith)
