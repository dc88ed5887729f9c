-- Stepping through a sheet that is handed over, and what the slices hold at the end.
use Rattle.std.specs.Prelude.{Bool, true, false, List, [], ◌∷◌, ℕ, length}
use Rattle.model_types.specs.ModelStruct.{verdict_number, verdict_place}
use Rattle.sheet_book.specs.declared.Start.{Start}
use Rattle.sheet_book.specs.declared.Kind.{Kind}
use Rattle.sheet_book.specs.declared.Kind.TheVariants.{Model, Step, End}
use Rattle.text.specs.Text.{laid}
use Rattle.model_slices.specs.HandedModels.{misused, over}

-- ---- opening
-- the number that it returns, and its numbers
pub record Open : Type 0 where
  pub number : ℕ
  pub numbers : List ℕ

-- these, put together
unfoldable pub open_state : (number : ℕ) → List ℕ → Open
open_state number ns = record { number = number; numbers = ns }

-- a call with room for two numbers is answered: the refusal's place and that of the first record; any other returns 255
-- and changes nothing
unfoldable pub called_open : (fits : Bool) → Start → (numbers : List ℕ) → Open
called_open true s ns =
    open_state (verdict_number s.verdict) (over (verdict_place s.verdict ∷ s.at ∷ []) ns)
called_open false s ns = open_state misused ns

-- ---- the record at a place
-- what it is, as a number
unfoldable pub kind_number : Kind → ℕ
kind_number Model = 1
kind_number Step = 2
kind_number End = 0

-- the number that a call returns, and its slices
pub record Next : Type 0 where
  pub number : ℕ
  pub bytes : List ℕ
  pub numbers : List ℕ

-- these, put together
unfoldable pub next_state : (number : ℕ) (bytes numbers : List ℕ) → Next
next_state number b ns = record { number = number; bytes = b; numbers = ns }

-- a call with room for two numbers is answered: the record's bytes over what the slice holds, its length and the place
-- of the next; any other returns 255 and changes nothing
unfoldable pub called_next : (fits : Bool) → Kind → (found : List ℕ) (next : ℕ) (bytes numbers : List ℕ) → Next
called_next true k f p b ns = next_state (kind_number k) (laid f b) (over (length f ∷ p ∷ []) ns)
called_next false k f p b ns = next_state misused b ns
