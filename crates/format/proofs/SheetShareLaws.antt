-- What the rows of a sheet say of its answer.
use Rattle.std.specs.Prelude.{◌≡◌, refl, List, [], ℕ, ◌-◌, ◌≤◌, length, get_or}
use Rattle.std.proofs.Math.Path.{sym, ap}
use Rattle.std.proofs.Common.{◌∙◌, subst, arith}
use Rattle.calculus.specs.Refusal.{Refusal, Result, done, stopped, ◌followed_by◌}
use Rattle.calculus.specs.Book.{most_steps, Summary, run, run_sound}
use Rattle.calculus.specs.Shares.{no_shares, rows_sound, reported}
use Rattle.calculus_laws.specs.ShareLaws.{Accounts, length_rows}
use Rattle.calculus_laws.specs.ShareRunLaws.{last_accounts, refused_rows, rows_count}
use Rattle.calculus_laws.specs.BookLaws.{Passes}
use Rattle.format.specs.HeldBook.{HeldBook, view_book, held_tested, HeldPasses}
use Rattle.format.specs.Format.{read, sheet_bytes, run_sheet, sheet_rows}
use Rattle.format.specs.HeldBookLaws.{view_passes, view_run, held_tested_passes}
use Rattle.format.proofs.ReadBackLaws.{read_back}
use Rattle.format.proofs.WriteBackLaws.{read_passes}
use Rattle.format.proofs.SheetRowLaws.{sheet_rows_are, sheet_rows_none}

-- THEOREM: any sheet has 64 rows
pub sheet_rows_count : (bytes : List ℕ) → length (sheet_rows bytes) ≡ most_steps
sheet_rows_count bytes = go (read bytes) refl
  where
    go : (r : Result HeldBook) → read bytes ≡ r → length (sheet_rows bytes) ≡ most_steps
    go (done h) e = ap length (sheet_rows_are bytes h e) ∙ rows_count (view_book h)
    go (stopped r i) e = ap length (sheet_rows_none bytes r i e) ∙ length_rows [] (omega arith)

module _ (bytes : List ℕ) (h : HeldBook) (e : read bytes ≡ done h) where
  passes : Passes (view_book h)
  passes = view_passes h (read_passes bytes h e)

  ran : run_sheet bytes ≡ run (view_book h)
  unfolding run_sheet ◌followed_by◌
  ran = ap (λ r. r followed_by (λ b. run_sound (view_book b))) e ∙ sym (view_run h (read_passes bytes h e))

  -- THEOREM: the row of the last step of an accepted sheet sums to U × the radius of the answer;
  pub sheet_accounts : (s : Summary) → run_sheet bytes ≡ done s
      → Accounts (get_or (sheet_rows bytes) (length (view_book h).steps - 1) no_shares) s.model
  sheet_accounts s k = subst (λ l. Accounts (get_or l (length (view_book h).steps - 1) no_shares) s.model)
      (sym (sheet_rows_are bytes h e)) (last_accounts (view_book h) s (sym ran ∙ k))

  -- where its run is refused at step i, its rows are zeros from there on
  pub sheet_refused_rows : (r : Refusal) (i : ℕ) → run_sheet bytes ≡ stopped r i
      → (j : ℕ) → i ≤ j → get_or (sheet_rows bytes) j no_shares ≡ no_shares
  sheet_refused_rows r i k j l = ap (λ l. get_or l j no_shares) (sheet_rows_are bytes h e)
      ∙ refused_rows (view_book h) passes r i (sym ran ∙ k) j l

-- THEOREM: a book in memory that passes the tests reports the rows of its sheet
pub held_rows_sheet : (h : HeldBook) → HeldPasses h
    → reported (held_tested h (done (rows_sound (view_book h)))) ≡ sheet_rows (sheet_bytes h)
unfolding sheet_rows ◌followed_by◌
held_rows_sheet h p = ap reported (held_tested_passes h _ p
    ∙ sym (ap (λ r. r followed_by (λ h. done (rows_sound (view_book h)))) (read_back h p)))
