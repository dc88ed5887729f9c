-- What a write answers and leaves in the buffer, case by case.
use Rattle.std.specs.Prelude.{◌≡◌, refl, List, ◌++◌, map, ℕ, ◌+◌, ◌*◌, ◌<◌, ◌≤◌, leb, drop}
use Rattle.std.proofs.Common.{sym, ◌∙◌, arith, le→leb}
use Rattle.std.proofs.Math.Path.{ap}
use Rattle.std.proofs.lemmas.Bool.{lt-leb}
use Rattle.std.proofs.Math.ListN.{length}
use Rattle.std.proofs.lemmas.List.Edits.{sets}
use Rattle.calculus.specs.Refusal as R
use Rattle.calculus.specs.Refusal.{done, stopped, require_at, short_buffer, returned, ◌followed_by◌}
use Rattle.calculus_laws.specs.RefusalLaws.{require_at_passed}
use Rattle.model_types.specs.declared.Refusal.{Refusal}
use Rattle.model_types.specs.declared.Refusal.TheVariants.{ShortBuffer}
use Rattle.model_types.specs.ModelStruct.{Verdict}
use Rattle.std.specs.Prelude.{Ok, Err}
use Rattle.model_types.specs.ModelStruct.{refused_at}
use Rattle.model_types.specs.ModelStruct.{refusal, cause}
use Rattle.model_types.specs.ModelStructLaws.{refusal_cause}
use Rattle.format.specs.Bytes.{join}
use Rattle.format.specs.HeldBook.{HeldBook, HeldPasses}
use Rattle.format.specs.Format.{step_length, trailer_length}
use Rattle.format.specs.Format.{step_bytes, models_bytes, trailer_bytes, sheet_bytes, write, written}
use Rattle.format.specs.HeldBookLaws.{held_tested_passes}
use Rattle.format.proofs.ReadBackLaws.{sheet_length}
use Rattle.sheet_book.specs.declared.Book.{Book}
use Rattle.sheet_book.specs.declared.Written.{Written}
use Rattle.sheet_book.specs.BookStruct.{held_book, book_verdict, write_answer}
use Rattle.sheet_book.specs.TestedLaws.{verdict_refused}
use Rattle.sheet_writer.specs.SheetStoreLaws.{sheet_stores}

-- an answer and a buffer that are those of a write
pub record Outcome (h : HeldBook) (entry : List ℕ) (answer : Written) (exit : List ℕ) : Type 0 where
  pub answers : answer ≡ write_answer (write h entry)
  pub leaves : exit ≡ (written h entry).value.buffer

module _ (h : HeldBook) (entry : List ℕ) where
  is_refused : (q : R.Refusal) (i : ℕ) → write h entry ≡ stopped q i
      → Outcome h entry (record { length = 0; verdict = Err (refused_at (refusal q) i) }) entry
  unfolding written write_answer ◌followed_by◌ returned
  is_refused q i e = record { answers = rw e; leaves = rw e }

  is_accepted : (s : List ℕ) → write h entry ≡ done s
      → Outcome h entry (record { length = length s; verdict = Ok tt }) (s ++ drop (length s) entry)
  unfolding written write_answer ◌followed_by◌ returned
  is_accepted s e = record { answers = rw e; leaves = rw e }

  -- the buffer is too short
  pub too_short : HeldPasses h → length entry < length (sheet_bytes h)
      → Outcome h entry (record { length = 0; verdict = Err (refused_at ShortBuffer 0) }) entry
  unfolding write refusal
  too_short p l = is_refused short_buffer 0
      (held_tested_passes h _ p
      ∙ ap (λ t. require_at 0 t short_buffer (done (sheet_bytes h))) (lt-leb (length (sheet_bytes h)) (length entry) l)
      ∙ unfold require_at in refl)

  -- it is long enough: models, steps and the trailer are put, each after the one before
  pub long_enough : HeldPasses h → (offset end : ℕ) (first second exit : List ℕ) → offset ≡ length (models_bytes h)
      → end ≡ offset + step_length * length h.steps → end + trailer_length ≤ length entry
      → first ≡ sets entry 0 (models_bytes h) → second ≡ sets first offset (join (map step_bytes h.steps))
      → exit ≡ sets second end (trailer_bytes h)
      → Outcome h entry (record { length = end + trailer_length; verdict = Ok tt }) exit
  unfolding write
  long_enough p offset end first second exit o e l f s t =
      rw (t, s, f, sheet_stores h entry offset end o e room, size)
      (is_accepted (sheet_bytes h)
      (held_tested_passes h _ p
      ∙ require_at_passed 0 (leb (length (sheet_bytes h)) (length entry)) short_buffer _
      (le→leb (length (sheet_bytes h)) (length entry) room)))
    where
      size : end + trailer_length ≡ length (sheet_bytes h)
      size = omega (arith, sheet_length h p)

      room : length (sheet_bytes h) ≤ length entry
      room = omega (arith, size)

-- the book is refused
pub book_refused : (b : Book) (entry : List ℕ) (x : Refusal) (y : ℕ) (v : Verdict) → v ≡ book_verdict b
    → v ≡ Err (refused_at x y) → Outcome (held_book b) entry (record { length = 0; verdict = v }) entry
unfolding write
book_refused b entry x y v e k = rw (k, ← refusal_cause x)
    (is_refused (held_book b) entry (cause x) y (verdict_refused b x y (sym e ∙ k) _))
