-- From bytes: the sheet of a renamed book is read, its run gives the renamed result, and its rows stay.
use Rattle.std.specs.Prelude.{◌≡◌, List, ℕ}
use Rattle.std.proofs.Common.{sym, ◌∙◌, ap}
use Rattle.calculus.specs.Refusal.{done, ◌followed_by◌}
use Rattle.calculus.specs.Book.{run_sound}
use Rattle.calculus.specs.Shares.{shares_rows}
use Rattle.format.specs.HeldBook.{HeldBook, view_book}
use Rattle.format.specs.Format.{read, sheet_bytes, run_sheet, sheet_rows}
use Rattle.format.specs.HeldBookLaws.{view_passes}
use Rattle.format.proofs.ReadBackLaws.{read_back}
use Rattle.format.proofs.WriteBackLaws.{read_passes}
use Rattle.format.proofs.SheetRowLaws.{sheet_rows_are}
use Rattle.renaming.specs.Reordering.{Reordering, rename_result, rename_book, rename_held}
use Rattle.renaming.proofs.RenamedHeldLaws.{held_renamed_passes, view_book_renamed}
use Rattle.renaming.proofs.RenamedRunLaws.{run_sound_renamed}
use Rattle.renaming.proofs.RenamedShareLaws.{renamed_rows}

-- the run of a sheet that is read
pub run_read : (bytes : List ℕ) (h : HeldBook) → read bytes ≡ done h → run_sheet bytes ≡ run_sound (view_book h)
unfolding run_sheet ◌followed_by◌
run_read bytes h e = ap (λ r. r followed_by (λ b. run_sound (view_book b))) e

module _ (bytes : List ℕ) (h : HeldBook) (e : read bytes ≡ done h) (ρ : Reordering h.n) where
  -- the reader accepts the sheet of the renamed book
  pub renamed_read : read (sheet_bytes (rename_held ρ h)) ≡ done (rename_held ρ h)
  renamed_read = read_back (rename_held ρ h) (held_renamed_passes h (read_passes bytes h e) ρ)

  -- its run gives the renamed result, or the same refusal at the same step
  pub renamed_sheet : run_sheet (sheet_bytes (rename_held ρ h)) ≡ rename_result ρ (run_sheet bytes)
  renamed_sheet = run_read (sheet_bytes (rename_held ρ h)) (rename_held ρ h) renamed_read
      ∙ ap run_sound (view_book_renamed h (read_passes bytes h e) ρ)
      ∙ run_renamed
      ∙ ap (rename_result ρ) (sym (run_read bytes h e))
    where
      run_renamed : run_sound (rename_book ρ (view_book h)) ≡ rename_result ρ (run_sound (view_book h))
      run_renamed = unfold view_book in
          run_sound_renamed (view_book h) (view_passes h (read_passes bytes h e)) ρ

  -- and it reports the same rows
  pub renamed_sheet_rows : sheet_rows (sheet_bytes (rename_held ρ h)) ≡ sheet_rows bytes
  renamed_sheet_rows = sheet_rows_are (sheet_bytes (rename_held ρ h)) (rename_held ρ h) renamed_read
      ∙ ap shares_rows (view_book_renamed h (read_passes bytes h e) ρ)
      ∙ rows_renamed
      ∙ sym (sheet_rows_are bytes h e)
    where
      rows_renamed : shares_rows (rename_book ρ (view_book h)) ≡ shares_rows (view_book h)
      rows_renamed = unfold view_book in renamed_rows (view_book h) (view_passes h (read_passes bytes h e)) ρ
