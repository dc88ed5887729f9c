-- The rows that a sheet reports are those of the book that it holds.
use Rattle.std.specs.Prelude.{◌≡◌, List, [], ℕ}
use Rattle.std.proofs.Common.{sym, ◌∙◌, ap}
use Rattle.calculus.specs.Refusal.{Refusal, done, stopped, returned, ◌followed_by◌}
use Rattle.calculus_laws.specs.BookLaws.{tested_passes}
use Rattle.calculus.specs.Shares.{all_rows, rows_sound, reported, shares_rows}
use Rattle.format.specs.HeldBook.{HeldBook, view_book}
use Rattle.format.specs.Format.{read, sheet_rows}
use Rattle.format.specs.HeldBookLaws.{view_passes}
use Rattle.format.proofs.WriteBackLaws.{read_passes}

-- the tests that reading made need not be made again
pub sheet_rows_are : (bytes : List ℕ) (h : HeldBook) → read bytes ≡ done h
    → sheet_rows bytes ≡ shares_rows (view_book h)
unfolding sheet_rows shares_rows ◌followed_by◌
sheet_rows_are bytes h e = ap (λ r. reported (r followed_by (λ h. done (rows_sound (view_book h))))) e
    ∙ sym (ap reported (tested_passes (view_book h) (done (rows_sound (view_book h)))
    (view_passes h (read_passes bytes h e))))

-- 64 rows of zeros for a sheet that tests 1 to 6 refuse
pub sheet_rows_none : (bytes : List ℕ) (r : Refusal) (i : ℕ) → read bytes ≡ stopped r i
    → sheet_rows bytes ≡ all_rows []
unfolding sheet_rows reported returned ◌followed_by◌
sheet_rows_none bytes r i e = ap (λ r. reported (r followed_by (λ h. done (rows_sound (view_book h))))) e
