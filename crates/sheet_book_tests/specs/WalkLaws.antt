-- The loops that walk over a book's models and steps to the first that fails.
use Rattle.std.specs.Prelude.{◌≡◌, Bool, true, ◌&&◌, List, ℕ, ◌+◌, ◌≤◌, ◌<◌, eqb, length, get_or}
use Rattle.std.proofs.Common.{sym, ◌∙◌, ap, arith}
use Rattle.std.proofs.Math.Bool.{false}
use Rattle.calculus.specs.Model.{sound}
use Rattle.model_types.specs.declared.Model.{Model}
use Rattle.model_types.specs.ModelStruct.{view}
use Rattle.format.specs.HeldBook.{outline_of, held_model_sound, held_step_sound}
use Rattle.format.specs.Fields.{fields_sound}
use Rattle.sheet_book.specs.declared.Step.{Step}
use Rattle.sheet_book.specs.declared.Book.{Book}
use Rattle.sheet_book.specs.BookStruct.{no_model, no_step, held_model, held_step, held_book}
use Rattle.sheet_book.specs.CodeLaws.{model_by_code, step_by_code}
use Rattle.sheet_book.specs.Failing.{first_failing}
use Rattle.sheet_book.specs.FailingLaws.{Walked, walked_iteration, walked_found, walked_end}
use Rattle.sheet_book.specs.FailingLaws.{held, length_held, held_at, outline_book}
use Rattle.sheet_book_tests.specs.Unsound.{first_unsound_model, first_unsound_step}

-- ---- a loop over the places in use of an array
module _ {A B : Type 0} (zeros : A) (f : A → B) (c : ℕ) (l : List A) (ok : ℕ → B → Bool) (i : ℕ) (fits : c ≤ length l)
    (w : Walked ok (held zeros f c l) i) (x : A) where
  here : i < c → (t : Bool) → ok i (f (get_or l i x)) ≡ t → ok i (get_or (held zeros f c l) i (f x)) ≡ t
  here h t e = ap (ok i) (held_at zeros f c l fits i x h) ∙ e

  inside : i < c → i < length (held zeros f c l)
  inside h = let k = length_held zeros f c l in omega arith

  -- one that passes leaves it to the rest
  pub place_iteration : i < c → ok i (f (get_or l i x)) ≡ true → Walked ok (held zeros f c l) (i + 1)
  place_iteration h e = walked_iteration w (f x) (inside h) (here h true e)

  -- one that fails is the first
  pub place_found : i < c → ok i (f (get_or l i x)) ≡ false → i ≡ first_failing 0 ok (held zeros f c l)
  place_found h e = walked_found w (f x) (inside h) (here h false e)

  -- after the last
  pub place_end : c ≤ i → i ≡ first_failing 0 ok (held zeros f c l)
  place_end h = walked_end w (let k = length_held zeros f c l in omega arith)

-- ---- the book's tests as the code makes them
module _ (b : Book) where
  -- test 5
  pub model_test : (m : Model) → held_model_sound (outline_of (held_book b)) (held_model m)
      ≡ (eqb m.n b.n && sound b.d (view m))
  model_test m = ap (λ o. held_model_sound o (held_model m)) (outline_book b) ∙ model_by_code b.n b.d _ _ m

  -- test 6
  pub step_test : (i : ℕ) (s : Step) → held_step_sound (outline_of (held_book b)) i (held_step s)
      ≡ fields_sound b.n b.model_count i (held_step s)
  step_test i s = ap (λ o. held_step_sound o i (held_step s)) (outline_book b)
      ∙ step_by_code b.n b.d b.model_count b.step_count i (held_step s)

-- ---- the loop over a book's models: those before number k pass
abbrev pub ModelsWalked : Book → (k : ℕ) → Type 0
ModelsWalked b k = Walked (λ i. held_model_sound (outline_of (held_book b)))
    (held no_model held_model b.model_count b.models) k

module _ (b : Book) (k : ℕ) (fits : b.model_count ≤ length b.models) (w : ModelsWalked b k) where
  pub models_end : b.model_count ≤ k → k ≡ first_unsound_model b
  unfolding first_unsound_model held_book
  models_end h = place_end no_model held_model _ _ _ k fits w no_model h

  module _ (l : k < b.model_count) (x : Model) where
    abbrev m : Model
    m = get_or b.models k x

    by_rules : (t : Bool) → eqb m.n b.n && sound b.d (view m) ≡ t
        → held_model_sound (outline_of (held_book b)) (held_model m) ≡ t
    by_rules t h = model_test b m ∙ h

    -- one that fails is the first
    pub models_unsound : eqb m.n b.n && sound b.d (view m) ≡ false → k ≡ first_unsound_model b
    unfolding first_unsound_model held_book
    models_unsound h = place_found no_model held_model _ _ _ k fits w x l (by_rules false h)

    pub models_iteration : eqb m.n b.n && sound b.d (view m) ≡ true → ModelsWalked b (k + 1)
    models_iteration h = place_iteration no_model held_model _ _ _ k fits w x l (by_rules true h)

-- ---- the loop over its steps
abbrev pub StepsWalked : Book → (k : ℕ) → Type 0
StepsWalked b k =
    Walked (held_step_sound (outline_of (held_book b))) (held no_step held_step b.step_count b.steps) k

module _ (b : Book) (k : ℕ) (fits : b.step_count ≤ length b.steps) (w : StepsWalked b k) where
  pub steps_end : b.step_count ≤ k → k ≡ first_unsound_step b
  unfolding first_unsound_step held_book
  steps_end h = place_end no_step held_step _ _ _ k fits w no_step h

  module _ (l : k < b.step_count) (s : Step) (t : Bool)
      (e : t ≡ fields_sound b.n b.model_count k (held_step (get_or b.steps k s))) where
    by_fields : (u : Bool) → t ≡ u
        → held_step_sound (outline_of (held_book b)) k (held_step (get_or b.steps k s)) ≡ u
    by_fields u q = step_test b k _ ∙ sym e ∙ q

    pub steps_bad : t ≡ false → k ≡ first_unsound_step b
    unfolding first_unsound_step held_book
    steps_bad q = place_found no_step held_step _ _ _ k fits w s l (by_fields false q)

    pub steps_iteration : t ≡ true → StepsWalked b (k + 1)
    steps_iteration q = place_iteration no_step held_step _ _ _ k fits w s l (by_fields true q)
