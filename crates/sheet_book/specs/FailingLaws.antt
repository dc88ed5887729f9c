-- The first that fails decides the refusal and its place; a loop that walks to it; the places in use of a book's
-- arrays; its limits.
use Rattle.std.specs.Prelude.{◌≡◌, Bool, get_or, drop}
use Rattle.std.proofs.Math.Path.{refl, sym, ap}
use Rattle.std.proofs.Common.{◌∙◌, ap₂, add-one, arith, drop_of_length-le, get_or-take, drop-cons}
use Rattle.std.proofs.Math.Bool.{true, false, cond}
use mathlib.Core.List.{List, [], ◌∷◌, map}
use Prim.Native.Nat.{ℕ, suc, ◌+◌, ◌≤◌, ◌<◌}
use Rattle.std.proofs.Math.ListN.{length, get_or-map}
use Rattle.std.proofs.lemmas.List.{length-map}
use Rattle.calculus.specs.Refusal as R
use Rattle.calculus.specs.Refusal.{Result, stopped, require_at, require_each}
use Rattle.calculus.specs.Book.{limits_sound}
use Rattle.model_types.specs.Arrays.{first_places}
use Rattle.model_types.specs.ArrayLaws.{first_take, length_first}
use Rattle.format.specs.HeldBook.{outline, outline_of}
use Rattle.sheet_book.specs.declared.Book.{Book}
use Rattle.sheet_book.specs.BookStruct.{no_model, no_step, held_model, held_step, held_book}
use Rattle.sheet_book.specs.Failing.{first_failing}

-- ---- what it decides
module _ {A B : Type 0} (ok : ℕ → B → Bool) (q : R.Refusal) (a : Result A) where
  pub failing_stops : (i : ℕ) (l : List B) → first_failing i ok l < i + length l
      → require_each i ok l q a ≡ stopped q (first_failing i ok l)
  unfolding first_failing require_each require_at
  failing_stops i [] h = absurd (omega arith)
  failing_stops i (x ∷ l) h = go (ok i x) (failing_stops (suc i) l) h
    where
      go : (t : Bool)
          → (first_failing (suc i) ok l < suc i + length l
          → require_each (suc i) ok l q a ≡ stopped q (first_failing (suc i) ok l))
          → cond t (first_failing (suc i) ok l) i < i + suc (length l)
          → require_at i t q (require_each (suc i) ok l q a) ≡ stopped q (cond t (first_failing (suc i) ok l) i)
      go true r k = r (omega arith)
      go false r k = refl

  pub failing_none : (i : ℕ) (l : List B) → i + length l ≤ first_failing i ok l → require_each i ok l q a ≡ a
  unfolding first_failing require_each require_at
  failing_none i [] h = refl
  failing_none i (x ∷ l) h = go (ok i x) (failing_none (suc i) l) h
    where
      go : (t : Bool) → (suc i + length l ≤ first_failing (suc i) ok l → require_each (suc i) ok l q a ≡ a)
          → i + suc (length l) ≤ cond t (first_failing (suc i) ok l) i
          → require_at i t q (require_each (suc i) ok l q a) ≡ a
      go true r k = r (omega arith)
      go false r k = absurd (omega arith)

-- ---- a loop that walks to it: those before number i pass
pub record Walked {A : Type 0} (ok : ℕ → A → Bool) (l : List A) (i : ℕ) : Type 0 where
  pub within : i ≤ length l
  pub rest : first_failing 0 ok l ≡ first_failing i ok (drop i l)

pub walked_first : {A : Type 0} (ok : ℕ → A → Bool) (l : List A) → Walked ok l 0
walked_first ok l = record { within = omega arith; rest = refl }

module _ {A : Type 0} {ok : ℕ → A → Bool} {l : List A} {i : ℕ} (w : Walked ok l i) where
  cut : (x : A) → i < length l → first_failing i ok (drop i l) ≡ first_failing i ok (get_or l i x ∷ drop (suc i) l)
  cut x h = ap (first_failing i ok) (drop-cons l i x h)

  -- one that passes leaves it to the rest
  pub walked_iteration : (x : A) → i < length l → ok i (get_or l i x) ≡ true → Walked ok l (i + 1)
  unfolding first_failing
  walked_iteration x h e = record { within = omega arith; rest = w.rest ∙ cut x h ∙ rw (e, add-one) }

  -- one that fails is the first
  pub walked_found : (x : A) → i < length l → ok i (get_or l i x) ≡ false → i ≡ first_failing 0 ok l
  unfolding first_failing
  walked_found x h e = sym (w.rest ∙ cut x h ∙ rw e)

  -- after the last
  pub walked_end : length l ≤ i → i ≡ first_failing 0 ok l
  unfolding first_failing
  walked_end h = sym (w.rest ∙ ap (first_failing i ok) (drop_of_length-le l {i = i} h))

-- ---- the places in use of an array
module _ {A B : Type 0} (zeros : A) (f : A → B) (c : ℕ) (l : List A) where
  abbrev pub held : List B
  held = map f (first_places zeros c l)

  pub length_held : length held ≡ c
  length_held = length-map (first_places zeros c l) f ∙ length_first zeros c l

  pub held_at : c ≤ length l → (i : ℕ) (x : A) → i < c → get_or held i (f x) ≡ f (get_or l i x)
  held_at fits i x h = get_or-map f (first_places zeros c l) i x
      ∙ ap (λ k. f (get_or k i x)) (first_take zeros c l fits) ∙ ap f (get_or-take c l i x h)

-- ---- a book's counts and limits
pub outline_book : (b : Book) → outline_of (held_book b) ≡ outline b.n b.d b.model_count b.step_count
unfolding outline_of held_book
outline_book b = ap₂ (outline b.n b.d)
    (length_held no_model held_model b.model_count b.models)
    (length_held no_step held_step b.step_count b.steps)

module _ (b : Book) where
  pub count_models : length (held_book b).models ≡ b.model_count
  unfolding held_book
  count_models = length_held no_model held_model b.model_count b.models

  pub count_steps : length (held_book b).steps ≡ b.step_count
  unfolding held_book
  count_steps = length_held no_step held_step b.step_count b.steps

  -- test 3
  pub limits_test : limits_sound (outline_of (held_book b))
      ≡ limits_sound (outline b.n b.d b.model_count b.step_count)
  limits_test = ap limits_sound (outline_book b)
