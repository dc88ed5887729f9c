-- Books in memory, with the rows that they report before those of zeros.
use Rattle.std.specs.Prelude.{◌≡◌, refl, [], ◌∷◌, map, ℕ, ℤ, pos}
use Rattle.calculus.specs.Shares.{all_rows}
use Rattle.calculus.specs.ShareEdges.{shares, share_forms}
use Rattle.calculus.specs.Computing.{reports}
use Rattle.format.specs.HeldBook.{HeldStep}
use Rattle.format.specs.Computing.{writes}
use Rattle.sheet.specs.Sheet.{rows_held}

-- a step
unfoldable pub step : (code a b v : ℕ) → ℤ → HeldStep
step code a b v value = record { code = code; a = a; b = b; v = v; value = value }

pub books_report :
    map rows_held
    -- 1 times 524288: half a unit is rounded away, and half a unit is slack
    (record {
      n = 1;
      d = 1;
      models = [];
      steps = step 1 0 0 0 (pos 1) ∷ step 1 0 0 0 (pos 524288) ∷ step 6 0 1 0 (pos 0) ∷ [];
    }
    -- radii 2 and 3 multiplied, then refused by 7: 2^30 and 2^30
    ∷ record {
      n = 1;
      d = 1;
      models = record { n = 1; radius = 2; terms = [] } ∷ record { n = 1; radius = 3; terms = [] } ∷ [];
      steps = step 0 0 0 0 (pos 0) ∷ step 0 1 0 0 (pos 0) ∷ step 6 0 1 0 (pos 0) ∷ step 1 0 0 0 (pos 1073741824)
          ∷ step 4 3 3 0 (pos 0) ∷ step 3 0 0 0 (pos 0) ∷ [];
    }
    -- a step of no code, which is 6, and a book of zeros, which is 3
    ∷ record { n = 1; d = 1; models = []; steps = step 1 0 0 0 (pos 1) ∷ step 11 0 0 0 (pos 0) ∷ [] }
    ∷ record { n = 0; d = 0; models = []; steps = [] } ∷ [])
    ≡ map all_rows
    ((shares 0 0 0 0 ∷ shares 0 0 0 0 ∷ shares 0 524288 0 524288 ∷ [])
    ∷ (shares 2097152 0 0 0 ∷ shares 3145728 0 0 0 ∷ shares 6 0 0 1048570 ∷ shares 0 0 0 0 ∷ [])
    ∷ [] ∷ [] ∷ [])
unfolding writes reports share_forms rows_held step
books_report = refl
