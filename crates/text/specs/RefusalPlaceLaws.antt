-- A sheet that is refused is refused at a small place: no model and no step has a number above 64.
use Rattle.std.specs.Prelude.{◌≡◌, refl, Bool, true, false, ◌&&◌, ℕ, zero, suc, ◌+◌, ◌≤◌, T, leb, length, drop}
use Rattle.std.proofs.Common.{subst, arith}
use mathlib.Core.List.{List, [], ◌∷◌, ◌++◌}
use Rattle.calculus.specs.Model.{Model}
use Rattle.calculus.specs.Refusal.{Refusal, bad_model, bad_step, Answer, accepted, refused, Result, done, stopped}
use Rattle.calculus.specs.Refusal.{at_place, require_at, require_each, ◌followed_by◌}
use Rattle.calculus.specs.Tests.{vars_sound, order_sound}
use Rattle.calculus.specs.Book.{Step, Book, most_models, most_steps, limits_sound, run_steps, run_sound}
use Rattle.calculus_laws.specs.TestLaws.{and_left, and_right}
use Rattle.calculus_laws.specs.BookLaws.{Passes, between_high, next_number}
use Rattle.format.specs.HeldBook.{HeldModel, view_book, held_step_sound, outline}
use Rattle.format.specs.Format.{read_model, read_models, Trailer, read_trailer, trailer_of, read_steps}
use Rattle.format.specs.Format.{trailer_sound, read_records, read, run_sheet}
use Rattle.format.specs.HeldBookLaws.{in_limits, view_passes}
use Rattle.format.proofs.WriteBackLaws.{length_read_steps, read_passes}

-- a result that is done, or is refused at a place up to b
pub data Near {A : Type 0} (b : ℕ) : Result A → Type 0 where
  any_value : {a : A} → Near b (done a)
  at_most : {r : Refusal} {i : ℕ} → i ≤ b → Near b (stopped r i)

pub near_place : {A : Type 0} {b : ℕ} {x : Result A} {r : Refusal} {i : ℕ} → Near b x → x ≡ stopped r i → i ≤ b
near_place {A} {b} {x} {r} {i} h e = get (subst (Near b) e h)
  where
    get : Near {A = A} b (stopped r i) → i ≤ b
    get (at_most l) = l

near_require : {A : Type 0} {b : ℕ} (i : ℕ) (t : Bool) (r : Refusal) (x : Result A) → i ≤ b → (T t → Near b x)
    → Near b (require_at i t r x)
unfolding require_at
near_require i true r x h k = k tt
near_require i false r x h k = at_most h

near_each : {A B : Type 0} {b : ℕ} (i : ℕ) (ok : ℕ → B → Bool) (l : List B) (r : Refusal) (x : Result A)
    → i + length l ≤ b → Near b x → Near b (require_each i ok l r x)
unfolding require_each
near_each i ok [] r x h k = k
near_each i ok (y ∷ l) r x h k = near_require i (ok i y) r _ (omega arith)
    (λ t. near_each (suc i) ok l r x (omega arith) k)

near_followed : {A B : Type 0} {b : ℕ} (x : Result A) (f : A → Result B) → Near b x
    → ((a : A) → x ≡ done a → Near b (f a)) → Near b (x followed_by f)
unfolding ◌followed_by◌
near_followed (done a) f h k = k a refl
near_followed (stopped r i) f (at_most l) k = at_most l

-- ---- reading
near_models : (book : Book) (before : List HeldModel) (c : ℕ) (s : List ℕ) {b : ℕ} → length before + c ≤ b
    → Near b (read_models book before c s)
unfolding read_models
near_models book before zero [] h = any_value
near_models book before zero (x ∷ s) h = at_most {i = length before} (omega arith)
near_models book before (suc c) s h = near_require (length before) _ bad_model _ (omega arith)
    (λ t. near_models book (before ++ (read_model book.vars s ∷ [])) c _
    (omega (arith, next_number before (read_model book.vars s))))

module _ (s : List ℕ) (t : Trailer) where
  abbrev book : Book
  book = outline t.n t.d t.models t.steps

  near_records : Near 64 (read_records s t)
  unfolding read_records trailer_sound
  near_records = near_require 0 _ _ _ (omega arith) (λ l.
      let limits = in_limits t.n t.d t.models t.steps (and_left (limits_sound book) _ l) in
      near_require 0 _ _ _ (omega arith) (λ o.
      near_followed _ _ (near_models book [] t.models _ (omega (arith, limits.models)))
      (λ ms e. near_each 0 (held_step_sound book) (read_steps t.steps (drop t.offset s)) bad_step _
      (omega (arith, limits.steps_high, length_read_steps t.steps (drop t.offset s))) any_value)))

near_read : (s : List ℕ) → Near 64 (read s)
unfolding read
near_read s = near_require 0 _ _ _ (omega arith) (λ l. near_require 0 _ _ _ (omega arith)
    (λ m. near_records s (read_trailer (trailer_of s))))

-- ---- running
near_step : {A : Type 0} {b : ℕ} (i : ℕ) (a : Answer A) → i ≤ b → Near b (at_place i a)
unfolding at_place
near_step i (accepted a) h = any_value
near_step i (refused r) h = at_most h

near_steps : (book : Book) (results : List Model) (l : List Step) {b : ℕ} → length results + length l ≤ b
    → Near b (run_steps book results l)
unfolding run_steps
near_steps book results [] h = any_value
near_steps book results (s ∷ l) h = near_followed _ _ (near_step (length results) _ (omega arith))
    (λ m e. near_steps book (results ++ (m ∷ [])) l (omega (arith, next_number results m)))

steps_count : (b : Book) → T (limits_sound b) → length b.steps ≤ 64
unfolding limits_sound most_steps
steps_count b h = between_high 1 64 (length b.steps)
    (and_right (vars_sound b.vars && order_sound b.order && leb (length b.models) most_models) _ h)

near_run : (b : Book) → Passes b → Near 64 (run_sound b)
unfolding run_sound
near_run b p = near_followed _ _ (near_steps b [] b.steps {b = 64} (omega (arith, steps_count b p.limits)))
    (λ r e. any_value)

-- the place of a refused sheet
pub near_sheet : (s : List ℕ) → Near 64 (run_sheet s)
unfolding run_sheet
near_sheet s = near_followed (read s) _ (near_read s)
    (λ h e. near_run (view_book h) (view_passes h (read_passes s h e)))
