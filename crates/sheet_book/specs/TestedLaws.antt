-- What a verdict says: an accepted book passes tests 3, 5 and 6, a refused one stops all that is asked after them.
use Rattle.std.specs.Prelude.{◌≡◌, refl, Bool, List, [], ◌∷◌, ℕ, suc}
use Rattle.std.proofs.Common.{sym, ◌∙◌, ap, ap₂, arith}
use Rattle.calculus.specs.Refusal as R
use Rattle.calculus.specs.Refusal.{Result, done, stopped, require_at, require_each, ◌followed_by◌}
use Rattle.calculus.specs.Refusal.{bad_limits, bad_model, bad_step}
use Rattle.calculus_laws.specs.RefusalLaws.{at_followed}
use Rattle.calculus.specs.Book.{limits_sound}
use Rattle.model_types.specs.declared.Refusal.{Refusal}
use Rattle.std.specs.Prelude.{Ok, Err}
use Rattle.model_types.specs.declared.Refused.{Refused}
use Rattle.model_types.specs.ModelStruct.{refused_at}
use Rattle.model_types.specs.ModelStruct.{refusal, cause}
use Rattle.model_types.specs.ModelStructLaws.{cause_refusal}
use Rattle.format.specs.HeldBook.{HeldBook, outline_of, held_model_sound, held_step_sound, held_tested, HeldPasses}
use Rattle.format.specs.HeldBookLaws.{held_tested_passes, held_tested_done}
use Rattle.sheet_book.specs.declared.Book.{Book}
use Rattle.sheet_book.specs.BookStruct.{held_book, verdict, book_verdict}

-- ---- tests before a result are made before what follows it
each_first : {A B C : Type 0} (i : ℕ) (ok : ℕ → C → Bool) (l : List C) (q : R.Refusal) (a : Result A) (f : A → Result B)
    → require_each i ok l q (a followed_by f) ≡ (require_each i ok l q a followed_by f)
unfolding require_each
each_first i ok [] q a f = refl
each_first i ok (x ∷ l) q a f =
    ap (require_at i (ok i x) q) (each_first (suc i) ok l q a f) ∙ sym (at_followed i (ok i x) q _ f)

pub tested_first : {A B : Type 0} (h : HeldBook) (a : Result A) (f : A → Result B)
    → held_tested h (a followed_by f) ≡ (held_tested h a followed_by f)
unfolding held_tested
tested_first h a f =
    ap (λ r. require_at 0 (limits_sound (outline_of h)) bad_limits
    (require_each 0 (λ i. held_model_sound (outline_of h)) h.models bad_model r))
    (each_first 0 (held_step_sound (outline_of h)) h.steps bad_step a f)
    ∙ ap (require_at 0 (limits_sound (outline_of h)) bad_limits)
    (each_first 0 (λ i. held_model_sound (outline_of h)) h.models bad_model _ f)
    ∙ sym (at_followed 0 (limits_sound (outline_of h)) bad_limits _ f)

-- ---- the two cases of a verdict
pub verdict_done : {A : Type 0} (r : Result A) (a : A) → r ≡ done a → verdict r ≡ Ok tt
unfolding verdict
verdict_done r a e = rw e

pub verdict_stopped : {A : Type 0} (r : Result A) (q : R.Refusal) (i : ℕ) → r ≡ stopped q i
    → verdict r ≡ Err (refused_at (refusal q) i)
unfolding verdict
verdict_stopped r q i e = rw e

-- and back: what is accepted is done,
pub record IsDone {A : Type 0} (r : Result A) : Type 0 where
  pub value : A
  pub is : r ≡ done value

pub accepted_done : {A : Type 0} (r : Result A) → verdict r ≡ Ok tt → IsDone r
unfolding verdict
accepted_done (done a) e = record { value = a; is = refl }
accepted_done (stopped q i) e = let z : ◌≡◌ {A = ℕ} 0 1 = cc in absurd (omega arith)

-- and what is refused is stopped
pub refused_stopped : {A : Type 0} (r : Result A) (x : Refusal) (y : ℕ) → verdict r ≡ Err (refused_at x y)
    → r ≡ stopped (cause x) y
unfolding verdict
refused_stopped (done a) x y e = let z : ◌≡◌ {A = ℕ} 0 1 = cc in absurd (omega arith)
refused_stopped (stopped q i) x y e =
    let both : refused_at (refusal q) i ≡ refused_at x y = cc in
    let same : refusal q ≡ x = ap (λ (p : Refused). p.0) both in
    let place : i ≡ y = ap (λ (p : Refused). p.1) both in
    ap₂ stopped (sym (cause_refusal q) ∙ ap cause same) place

-- a book that is accepted passes
pub verdict_accepted : (b : Book) → book_verdict b ≡ Ok tt → HeldPasses (held_book b)
unfolding book_verdict
verdict_accepted b e =
    let d = accepted_done (held_tested (held_book b) (done (held_book b))) e in
    (held_tested_done (held_book b) (done (held_book b)) d.value d.is).passes

-- so that what is asked for after the tests is what they hand on
pub verdict_hands_on : (b : Book) → book_verdict b ≡ Ok tt → {A : Type 0} (r : Result A)
    → held_tested (held_book b) r ≡ r
verdict_hands_on b e r = held_tested_passes (held_book b) r (verdict_accepted b e)

-- a book that is refused stops it, with the refusal and the place of the verdict
pub verdict_refused : (b : Book) (x : Refusal) (y : ℕ) → book_verdict b ≡ Err (refused_at x y)
    → {A : Type 0} (r : Result A)
    → held_tested (held_book b) r ≡ stopped (cause x) y
unfolding book_verdict ◌followed_by◌
verdict_refused b x y e r =
    tested_first (held_book b) (done (held_book b)) (λ h. r)
    ∙ ap (λ t. t followed_by (λ h. r)) (refused_stopped (held_tested (held_book b) (done (held_book b))) x y e)
