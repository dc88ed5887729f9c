-- What q and r say of the answer to a sheet.
use Rattle.std.specs.Prelude.{◌≡◌, List, ℕ}
use Rattle.calculus.specs.Refusal.{done}
use Rattle.calculus.specs.Book.{Summary, run_sound}
use Rattle.claim.proofs.ExactRunLaws.{ExactAnswer, sound_run_exact}
use Rattle.format.specs.HeldBook.{view_book}
use Rattle.format.specs.Format.{read, run_sheet}
use Rattle.format.specs.HeldBookLaws.{view_passes}
use Rattle.format.proofs.WriteBackLaws.{Came, came, read_passes}

-- THEOREM: q and r of an accepted sheet are U times the integral of the answered polynomial in up to four variables,
-- and 0 above
pub sheet_exact : (bytes : List ℕ) (s : Summary) → run_sheet bytes ≡ done s → ExactAnswer s.model s.exact
unfolding run_sheet
sheet_exact bytes s h = sound_run_exact (view_book c.value) s
    (view_passes c.value (read_passes bytes c.value c.first)) c.then
  where
    c : Came (read bytes) (λ b. run_sound (view_book b)) s
    c = came (read bytes) (λ b. run_sound (view_book b)) s h
