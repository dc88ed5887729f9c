-- Reading and writing undo each other, as theorems on the structs that the calls take and hand back.
use Rattle.std.specs.Prelude.{◌≡◌, refl, List, [], ◌∷◌, map, ℕ, suc, ◌≤◌, ◌<◌, length, take}
use Rattle.std.proofs.Math.Path.{sym, ap, ap₂}
use Rattle.std.proofs.Common.{◌∙◌, subst, arith, get_or-take}
use Rattle.std.proofs.Math.Dec.{T}
use Rattle.std.proofs.Math.ListN.{get_or, length-take}
use Rattle.calculus.specs.Model.{most_terms}
use Rattle.calculus.specs.Refusal.{Result, done, stopped}
use Rattle.calculus.specs.Book.{most_models, most_steps}
use Rattle.calculus_laws.specs.BookLaws.{all_from_at}
use Rattle.model_types.specs.declared.Model.{Model}
use Rattle.std.specs.Prelude.{Ok}
use Rattle.model_types.specs.Arrays.{first_places, padded}
use Rattle.model_types.specs.ArrayLaws.{first_take}
use Rattle.model_types.specs.ModelStruct.{zero_term, places, listed, of_terms, pad}
use Rattle.model_types.specs.PairedLaws.{length_paired}
use Rattle.format.specs.Bytes.{AllBytes}
use Rattle.format.specs.HeldBook.{HeldBook, outline_of, held_model_sound, HeldPasses}
use Rattle.format.specs.Format.{read, write, sheet_bytes}
use Rattle.format.specs.HeldBookLaws.{InLimits, in_limits}
use Rattle.format.proofs.SmallLaws.{model_facts}
use Rattle.format.proofs.ReadBackLaws.{read_back, written_reads_back}
use Rattle.format.proofs.WriteBackLaws.{read_writes_back}
use Rattle.sheet_book.specs.declared.Book.{Book}
use Rattle.sheet_book.specs.BookStruct.{no_model, no_step, held_term, held_model, held_step, held_book}
use Rattle.sheet_book.specs.BookStruct.{book_verdict}
use Rattle.sheet_book.specs.BookStruct.{stored_term, stored_model, stored_step, stored_book, read_answer}
use Rattle.sheet_book.specs.BookStructLaws.{map-∘, map_id, held_stored}
use Rattle.sheet_book.specs.TestedLaws.{verdict_accepted}
use Rattle.sheet_book.specs.FailingLaws.{length_held, held_at, count_models, count_steps, limits_test}
use Rattle.sheet_book.specs.Cleared.{Whole, cleared_model, cleared}

-- ---- written, then read
-- THEOREM: the sheet of a book that passes its tests reads back as that book
pub sheet_reads_back : (b : Book) → book_verdict b ≡ Ok tt
    → read_answer (read (sheet_bytes (held_book b))) ≡ record { book = stored_book (held_book b); verdict = Ok tt }
unfolding read_answer
sheet_reads_back b e = ap read_answer (read_back (held_book b) (verdict_accepted b e))

-- so does whatever was written of a book
pub written_reads : (b : Book) (buffer s : List ℕ) → write (held_book b) buffer ≡ done s
    → read_answer (read s) ≡ record { book = stored_book (held_book b); verdict = Ok tt }
unfolding read_answer
written_reads b buffer s e = ap read_answer (written_reads_back (held_book b) buffer s e)

-- ---- read, then written
-- THEOREM: what is read writes back as the same bytes, in any buffer that has room for them
pub read_writes : (s : List ℕ) (h : HeldBook) → AllBytes s → read s ≡ done h
    → (buffer : List ℕ) → length s ≤ length buffer → write (held_book (stored_book h)) buffer ≡ done s
read_writes s h y e buffer l = rw (held_stored h) (read_writes_back s h y e buffer l)

-- the same of an accepted answer and its book
pub answer_writes : (s : List ℕ) → AllBytes s → (read_answer (read s)).verdict ≡ Ok tt
    → (buffer : List ℕ) → length s ≤ length buffer → write (held_book (read_answer (read s)).book) buffer ≡ done s
unfolding read_answer
answer_writes s y e buffer l = go (read s) refl e
  where
    go : (r : Result HeldBook) → read s ≡ r → (read_answer r).verdict ≡ Ok tt
        → write (held_book (read_answer r).book) buffer ≡ done s
    go (done h) p k = read_writes s h y p buffer l
    go (stopped q i) p k = let z : ◌≡◌ {A = ℕ} 0 1 = cc in absurd (omega arith)

-- ---- what comes back of a struct: all that it uses, and zeros beyond
map_same : {A B : Type 0} (f g : A → B) (d : A) (l : List A)
    → ((i : ℕ) → i < length l → f (get_or l i d) ≡ g (get_or l i d)) → map f l ≡ map g l
map_same f g d [] e = refl
map_same f g d (x ∷ l) e = ap₂ ◌∷◌ (e 0 (omega arith)) (map_same f g d l (λ i h. e (suc i) (omega arith)))

-- a model
stored_held_model : (m : Model) → m.count ≤ length (listed m) → stored_model (held_model m) ≡ cleared_model m
unfolding stored_model held_model cleared_model stored_term held_term
stored_held_model m h = ap₂ (λ c l. of_terms m.n c m.radius (pad l))
    (length_held zero_term held_term m.count (listed m))
    (map_id held_term stored_term (λ t. refl) (places m.count (listed m))
    ∙ first_take zero_term m.count (listed m) h)

module _ (b : Book) (whole : Whole b) (p : HeldPasses (held_book b)) where
  in_range : InLimits b.n b.d b.model_count b.step_count
  in_range = in_limits b.n b.d b.model_count b.step_count (subst T (limits_test b) p.limits)

  few_models : b.model_count ≤ length b.models
  unfolding most_models
  few_models = omega (arith, in_range.models, whole.models)

  few_steps : b.step_count ≤ length b.steps
  unfolding most_steps
  few_steps = omega (arith, in_range.steps_high, whole.steps)

  few_terms : (i : ℕ) → i < b.model_count
      → (get_or b.models i no_model).count ≤ length (listed (get_or b.models i no_model))
  unfolding most_models most_terms held_book held_model
  few_terms i h =
      let m : Model = get_or b.models i no_model in
      let tested = all_from_at 0 (λ i. held_model_sound (outline_of (held_book b))) (held_book b).models
      (held_model no_model) p.models i (omega (arith, count_models b)) in
      let few = (model_facts (outline_of (held_book b)) (held_model m)
      (subst (λ k. T (held_model_sound (outline_of (held_book b)) k))
      (held_at no_model held_model b.model_count b.models few_models i no_model h) tested)).count in
      let count = length_held zero_term held_term m.count (listed m) in
      let keys = whole.keys i (omega (arith, in_range.models)) in
      let even = keys ∙ sym (whole.coefficients i (omega (arith, in_range.models))) in
      omega (arith, few, count, keys, length_paired m.keys m.coefficients even)

  same_models : map stored_model (held_book b).models ≡ map cleared_model (take b.model_count b.models)
  unfolding held_book
  same_models =
      map-∘ held_model stored_model (λ m. stored_model (held_model m)) (λ m. refl)
      (first_places no_model b.model_count b.models)
      ∙ ap (map (λ m. stored_model (held_model m))) (first_take no_model b.model_count b.models few_models)
      ∙ map_same (λ m. stored_model (held_model m)) cleared_model no_model (take b.model_count b.models)
      (λ i h. one_model i (omega (arith, length-take b.model_count b.models)))
    where
      one_model : (i : ℕ) → i < b.model_count
          → stored_model (held_model (get_or (take b.model_count b.models) i no_model))
          ≡ cleared_model (get_or (take b.model_count b.models) i no_model)
      one_model i h = rw (get_or-take b.model_count b.models i no_model h)
          (stored_held_model (get_or b.models i no_model) (few_terms i h))

  same_steps : map stored_step (held_book b).steps ≡ take b.step_count b.steps
  unfolding held_book stored_step held_step
  same_steps = map_id held_step stored_step (λ s. refl) (first_places no_step b.step_count b.steps)
      ∙ first_take no_step b.step_count b.steps few_steps

  -- THEOREM: the struct that comes back has all that the first uses, and zeros in the places that it does not
  pub stored_held : stored_book (held_book b) ≡ cleared b
  unfolding stored_book held_book cleared
  stored_held =
      ap₂ (λ m k. record {
        n = b.n;
        d = b.d;
        model_count = m;
        step_count = k;
        models = padded no_model most_models (map stored_model (held_book b).models);
        steps = padded no_step most_steps (map stored_step (held_book b).steps);
      }) (count_models b) (count_steps b)
      ∙ ap₂ (λ m k. record {
        n = b.n;
        d = b.d;
        model_count = b.model_count;
        step_count = b.step_count;
        models = padded no_model most_models m;
        steps = padded no_step most_steps k;
      }) same_models same_steps

-- THEOREM: so the sheet of a book that passes its tests reads back as the struct with zeros in the places not used
pub sheet_reads_cleared : (b : Book) → Whole b → book_verdict b ≡ Ok tt
    → read_answer (read (sheet_bytes (held_book b))) ≡ record { book = cleared b; verdict = Ok tt }
sheet_reads_cleared b whole e = sheet_reads_back b e
    ∙ ap (λ k. record { book = k; verdict = Ok tt }) (stored_held b whole (verdict_accepted b e))
