-- Rows as numbers: what a slice holds once those of a run are stored, and whether there is room.
use Rattle.std.specs.Prelude.{Bool, ◌&&◌, List, [], ◌∷◌, ℕ, leb}
use Rattle.model_types.specs.declared.Shares.{Shares}
use Rattle.sheet_book.specs.declared.Report.{Report}
use Rattle.model_slices.specs.HandedModels.{over, run_ends, model_room}

-- the four numbers of each row, one row after the other
unfoldable pub row_numbers : List Shares → List ℕ
row_numbers [] = []
row_numbers (s ∷ l) = s.carried ∷ s.rounding ∷ s.swept ∷ s.slack ∷ row_numbers l

-- how many these are: four for each of 64 steps
abbrev pub report_numbers : ℕ
report_numbers = 256

-- all rows, over what the slice holds
unfoldable pub stored_rows : Report → List ℕ → List ℕ
stored_rows r = over (row_numbers r.shares)

-- whether slices of these lengths have room for a run's answer with its rows
unfoldable pub report_room : (keys coefficients numbers ends shares : ℕ) → Bool
report_room keys coefficients numbers ends shares =
    model_room keys coefficients numbers && leb run_ends ends && leb report_numbers shares
