-- The remainder that a run answers fits a signed word.
use Rattle.std.specs.Prelude.{◌≡◌, refl, List, ℕ, ◌^◌, ◌<◌}
use Rattle.std.proofs.Common.{subst, arith}
use Rattle.calculus.specs.Refusal.{Result, done, stopped}
use Rattle.calculus.specs.Book as B
use Rattle.calculus.specs.Book.{Book, summary, run_sound}
use Rattle.calculus_laws.specs.BookLaws.{sound_ran}
use Rattle.format.specs.Format.{read, run_sheet}
use Rattle.format.specs.HeldBook.{HeldBook, view_book}
use Rattle.format.specs.HeldBookLaws.{held_tested_done}
use Rattle.format.proofs.WriteBackLaws.{came}
use Rattle.sheet.specs.Sheet.{run_held}
use Rattle.sheet_book.specs.SummaryStruct.{stored_exact, refused_summary, run_answer}
use Rattle.c_calls.specs.CallCodesLaws.{exact_small}

-- that of a book
sound_small : (b : Book) (s : B.Summary) → run_sound b ≡ done s → s.exact.remainder < 2 ^ 63
unfolding summary
sound_small b s e =
    subst (λ (t : B.Summary). t.exact.remainder < 2 ^ 63) (sound_ran b s e).is_summary (exact_small _)

-- as a struct; 0 beside a refusal
answer_small : (a : Result B.Summary) → ((s : B.Summary) → a ≡ done s → s.exact.remainder < 2 ^ 63)
    → (run_answer a).exact.remainder < 2 ^ 63
unfolding run_answer refused_summary stored_exact
answer_small (done s) h = h s refl
answer_small (stopped r i) h = omega arith

pub sheet_small : (sheet : List ℕ) → (run_answer (run_sheet sheet)).exact.remainder < 2 ^ 63
unfolding run_sheet
sheet_small sheet = answer_small _
    (λ s e. sound_small _ s (came (read sheet) (λ h. run_sound (view_book h)) s e).then)

pub held_small : (h : HeldBook) → (run_answer (run_held h)).exact.remainder < 2 ^ 63
unfolding run_held
held_small h = answer_small _ (λ s e. sound_small _ s (held_tested_done h (run_sound (view_book h)) s e).result)
