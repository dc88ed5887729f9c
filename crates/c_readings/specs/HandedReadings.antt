-- Rows of readings that are handed over as flat slices, and what the call leaves.
use Rattle.std.specs.Prelude.{Bool, true, false, ◌&&◌, List, [], ◌∷◌, ℕ, zero, suc, ◌+◌, ◌*◌, ◌/◌, leb, ℤ, length}
use Rattle.readings.specs.Readings.{Found}
use Rattle.model_types.specs.declared.Reading.{Reading}
use Rattle.model_types.specs.declared.Finding.{Finding}
use Rattle.std.specs.Prelude.{Option, None, Some}
use Rattle.model_types.specs.ModelStruct.{verdict_number, verdict_place}
use Rattle.model_readings.specs.ReadingStruct.{finding}
use Rattle.model_slices.specs.HandedModels.{borrowed, misused, over}
use Rattle.c_calls.specs.CallCodes.{coordinate}

-- ---- what is handed over
-- reading i: eight coordinates from 8 × i on, a low and a high value
unfoldable pub reading_of : (points lows highs : List ℤ) (i : ℕ) → Reading
reading_of ps ls hs i = record {
  x = coordinate ps (i * 8) ∷ coordinate ps (i * 8 + 1) ∷ coordinate ps (i * 8 + 2) ∷ coordinate ps (i * 8 + 3)
      ∷ coordinate ps (i * 8 + 4) ∷ coordinate ps (i * 8 + 5) ∷ coordinate ps (i * 8 + 6) ∷ coordinate ps (i * 8 + 7)
      ∷ [];
  low = coordinate ls i;
  high = coordinate hs i;
}

-- the numbers of the readings that are looked at end here: four times 256, the most of a row
abbrev pub numbers_end : ℕ
numbers_end = 1024

-- n readings from number i on
unfoldable pub readings_from : (points lows highs : List ℤ) (i n : ℕ) → List Reading
readings_from ps ls hs i zero = []
readings_from ps ls hs i (suc n) = reading_of ps ls hs i ∷ readings_from ps ls hs (suc i) n

-- the row: as many as there are low values
unfoldable pub row_of : (points lows highs : List ℤ) → List Reading
row_of ps ls hs = readings_from ps ls hs 0 (length ls)

-- how many numbers go with what is found: a refusal's place, whether a reading contradicts, and which
abbrev pub finding_numbers : ℕ
finding_numbers = 3

-- whether slices of these lengths hold a model and a row, and there is room for these numbers
unfoldable pub readings_fit : (count keys coefficients points lows highs numbers : ℕ) → Bool
readings_fit count keys coefficients points lows highs numbers =
    borrowed count keys coefficients && leb lows (points / 8) && leb lows highs && leb finding_numbers numbers

-- ---- what the slice holds at the end
-- the number that the call returns, and its slice
pub record CalledReadings : Type 0 where
  pub number : ℕ
  pub numbers : List ℕ

-- these, put together
unfoldable pub readings_state : (number : ℕ) → List ℕ → CalledReadings
readings_state number ns = record { number = number; numbers = ns }

-- whether a reading contradicts, as 1 or 0
unfoldable pub any_contradicts : Option ℕ → ℕ
any_contradicts None = 0
any_contradicts (Some i) = 1

-- its number, 0 where none does
unfoldable pub number_of : Option ℕ → ℕ
number_of None = 0
number_of (Some i) = i

-- the verdict's number, and a refusal's place and these two over what the slice holds
unfoldable pub stored_finding : Finding → List ℕ → CalledReadings
stored_finding f ns =
    readings_state (verdict_number f.verdict)
    (over (verdict_place f.verdict ∷ any_contradicts f.contradiction ∷ number_of f.contradiction ∷ []) ns)

-- a call that fits is answered, any other returns 255 and changes nothing
unfoldable pub called_readings : (fits : Bool) → Found → List ℕ → CalledReadings
called_readings true a ns = stored_finding (finding a) ns
called_readings false a ns = readings_state misused ns
