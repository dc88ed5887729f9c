-- What is known of a sheet's run: it does not look past the limit, and an accepted result is a sound model.
use Rattle.std.specs.Prelude.{◌≡◌, refl, false, ◌&&◌, List, ℕ, suc, ◌≤◌, ◌<◌, T, leb, eqb, length, take}
use Rattle.std.proofs.Common.{sym, ◌∙◌, ap, arith, take_all, length-take-le}
use Rattle.std.proofs.Math.Decide.{dec_le}
use Rattle.std.proofs.lemmas.Bool.{lt-leb}
use Rattle.calculus.specs.Model.{most_degree, between, sound}
use Rattle.calculus.specs.Refusal.{bad_length, done, stopped, require_at, ◌followed_by◌}
use Rattle.calculus.specs.Book.{Book, limits_sound, model_sound, Summary, summary, run_sound}
use Rattle.calculus_laws.specs.TestLaws.{and_right}
use Rattle.calculus_laws.specs.BookLaws.{Ran, sound_ran}
use Rattle.calculus_laws.specs.BookSoundLaws.{result_sound}
use Rattle.model.specs.OperationLaws.{sound_order}
use Rattle.format.specs.ReadLoopLaws.{and_false}
use Rattle.format.specs.HeldBook.{HeldBook, view_book, outline, outline_of, HeldPasses}
use Rattle.format.specs.Format.{shortest, longest, read, run_sheet}
use Rattle.format.specs.Lines.{lines, printed}
use Rattle.format.specs.HeldBookLaws.{in_limits, view_passes}
use Rattle.format.proofs.WriteBackLaws.{Came, came, read_passes}

-- ---- a sheet that is too long
long_refused : (s : List ℕ) → longest < length s → run_sheet s ≡ stopped bad_length 0
unfolding run_sheet read between require_at ◌followed_by◌
long_refused s h =
    rw (lt-leb (length s) longest h, and_false (leb shortest (length s)) false refl, require_at, ◌followed_by◌)

-- what the program reads of its input is run as the whole of it
pub printed_run : (s : List ℕ) → printed s ≡ lines (run_sheet s)
unfolding printed
printed_run s = go (dec_le (length s) (suc longest))
  where
    go : Dec (length s ≤ suc longest) → lines (run_sheet (take (suc longest) s)) ≡ lines (run_sheet s)
    go (yes h) = ap (λ l. lines (run_sheet l)) (take_all (suc longest) s h)
    go (no h) = ap lines
        (long_refused (take (suc longest) s)
        (omega (arith, length-take-le (suc longest) s (omega arith)))
        ∙ sym (long_refused s (omega arith)))

-- ---- an accepted sheet
pub record AcceptedRun (r : Summary) : Type 0 where
  pub model : T (sound most_degree r.model)
  pub is_summary : r ≡ summary r.model

ran_summary : (b : Book) (r : Summary) → Ran b r → r ≡ summary r.model
unfolding summary
ran_summary b r h = sym h.is_summary ∙ ap (λ (t : Summary). summary t.model) h.is_summary

pub accepted_run : (s : List ℕ) (r : Summary) → run_sheet s ≡ done r → AcceptedRun r
unfolding run_sheet
accepted_run s r e = record {
  model = sound_order h.d r.model order
      (and_right (eqb r.model.vars h.n) _ passed);
  is_summary = ran_summary (view_book h) r (sound_ran (view_book h) r c.then);
}
  where
    c : Came (read s) (λ h. run_sound (view_book h)) r
    c = came (read s) _ r e

    h : HeldBook
    h = c.value

    passes : HeldPasses h
    passes = read_passes s h c.first

    limits : T (limits_sound (outline h.n h.d (length h.models) (length h.steps)))
    limits = unfold outline_of in passes.limits

    order : h.d ≤ most_degree
    order = unfold most_degree in
        (in_limits h.n h.d (length h.models) (length h.steps) limits).d_high

    passed : T (eqb r.model.vars h.n && sound h.d r.model)
    passed = unfold model_sound view_book in result_sound (view_book h) (view_passes h passes) r c.then
