-- Sheets in bytes, with the rows that they report before those of zeros.
use Rattle.std.specs.Prelude.{◌≡◌, refl, [], ◌∷◌, map}
use Rattle.calculus.specs.Shares.{all_rows}
use Rattle.calculus.specs.ShareEdges.{shares, share_forms}
use Rattle.calculus.specs.Computing.{reports}
use Rattle.format.specs.Format.{sheet_rows}
use Rattle.format.specs.Computing.{reads}
use Rattle.format.specs.Samples.{hex, sheet_forms}

pub sheets_report :
    map sheet_rows
    -- 1 times 524288: half a unit is rounded away, and half a unit is slack
    (hex ("01 00 00 00 01 00 00 00" ∷ "01 00 00 00 00 00 08 00" ∷ "06 00 01 00 00 00 00 00" ∷
    "01 02 00 03 00 00 4D 4B" ∷ [])
    -- radii 2 and 3 multiplied, then refused by 7: 2^30 and 2^30
    ∷ hex ("02 00 00 00 00" ∷ "03 00 00 00 00" ∷ "00 00 00 00 00 00 00 00" ∷ "00 01 00 00 00 00 00 00" ∷
    "06 00 01 00 00 00 00 00" ∷ "01 00 00 00 00 00 00 40" ∷ "04 03 03 00 00 00 00 00" ∷ "03 00 00 00 00 00 00 00" ∷
    "01 02 02 06 0A 00 4D 4B" ∷ [])
    -- the radius of a model is above 2^30, which is 5
    ∷ hex ("01 00 00 40 00" ∷ "00 00 00 00 00 00 00 00" ∷ "01 02 01 01 05 00 4D 4B" ∷ []) ∷ [])
    ≡ map all_rows
    ((shares 0 0 0 0 ∷ shares 0 0 0 0 ∷ shares 0 524288 0 524288 ∷ [])
    ∷ (shares 2097152 0 0 0 ∷ shares 3145728 0 0 0 ∷ shares 6 0 0 1048570 ∷ shares 0 0 0 0 ∷ [])
    ∷ [] ∷ [])
unfolding reads reports sheet_forms share_forms sheet_rows
sheets_report = refl
