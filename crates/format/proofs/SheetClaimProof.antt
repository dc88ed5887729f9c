-- The claim about a whole sheet holds.
use Rattle.std.specs.Prelude.{◌≡◌, refl, List, ℕ}
use Rattle.std.proofs.Common.{sym}
use Rattle.calculus.specs.Refusal.{Result, done, stopped, ◌followed_by◌}
use Rattle.calculus.specs.Book.{Summary, run, run_sound}
use Rattle.claim.proofs.ClaimProof.{claim_sound}
use Rattle.format.specs.HeldBook.{HeldBook, view_book}
use Rattle.format.specs.Format.{read, run_sheet}
use Rattle.format.specs.HeldBookLaws.{view_passes, view_run}
use Rattle.format.proofs.WriteBackLaws.{Came, came, read_passes}
use Rattle.format.specs.SheetClaim.{SheetClaim}

-- THEOREM: it holds of every sheet that runs to a result
pub sheet_claim : (bytes : List ℕ) (s : Summary) → run_sheet bytes ≡ done s → SheetClaim bytes s
unfolding run_sheet
sheet_claim bytes s h = record {
  book = c.value;
  is_read = c.first;
  claims = claim_sound (view_book c.value) s
      (view_passes c.value (read_passes bytes c.value c.first)) c.then;
}
  where
    c : Came (read bytes) (λ b. run_sound (view_book b)) s
    c = came (read bytes) (λ b. run_sound (view_book b)) s h

-- the run of what is read makes no further test: it is that of the calculus, which tests
pub run_sheet_runs : (bytes : List ℕ) → run_sheet bytes ≡ (read bytes followed_by (λ b. run (view_book b)))
unfolding run_sheet ◌followed_by◌
run_sheet_runs bytes = go (read bytes) refl
  where
    go : (r : Result HeldBook) → read bytes ≡ r
        → (r followed_by (λ b. run_sound (view_book b))) ≡ (r followed_by (λ b. run (view_book b)))
    go (done b) e = sym (view_run b (read_passes bytes b e))
    go (stopped q i) e = refl
