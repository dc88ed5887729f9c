-- The records that are handed out: those of the book that was read, and with the trailer the whole sheet.
use Rattle.std.specs.Prelude.{◌≡◌, refl, T, take, drop}
use Rattle.std.proofs.Common.{sym, ◌∙◌, subst, drop_at, take_at}
use Rattle.std.proofs.Math.Path.{ap, ap₂}
use mathlib.Core.List.{List, [], ◌∷◌, ◌++◌, map, append_assoc}
use Prim.Native.Nat.{ℕ, suc, ◌+◌}
use Rattle.std.proofs.Math.ListN.{length, length-append}
use Rattle.std.proofs.lemmas.List.{length-map}
use Rattle.calculus.specs.Refusal.{done, ◌followed_by◌, all_from}
use Rattle.calculus.specs.Book.{Book}
use Rattle.calculus_laws.specs.TestLaws.{and_left, and_right}
use Rattle.format.specs.Bytes.{AllBytes, join}
use Rattle.format.specs.HeldBook.{HeldModel, HeldStep, HeldBook, outline, outline_of}
use Rattle.format.specs.HeldBook.{held_model_sound, HeldPasses}
use Rattle.format.specs.Format.{step_length, model_length, trailer_of, read}
use Rattle.format.specs.Format.{model_records, step_records, records, opened}
use Rattle.format.specs.Format.{model_bytes, step_bytes, models_bytes, trailer_bytes, sheet_bytes}
use Rattle.format.specs.BytesLaws.{join-++}
use Rattle.format.proofs.SmallLaws.{model_facts}
use Rattle.format.proofs.ReadBackLaws.{length_step, model_length_back, model_rest, trailer_back}
use Rattle.format.proofs.ReadBackLaws.{said, sheet_trailer}
use Rattle.format.proofs.WriteBackLaws.{read_passes, read_sheet}

-- the records of a book, in order
unfoldable pub book_records : HeldBook → List (List ℕ)
book_records h = map model_bytes h.models ++ map step_bytes h.steps

models_handed : (b : Book) (i : ℕ) (ms : List HeldModel) (r : List ℕ) → T (all_from i (λ i. held_model_sound b) ms)
    → model_records b.vars (length ms) (join (map model_bytes ms) ++ r) ≡ map model_bytes ms
unfolding model_records join all_from
models_handed b i [] r h = refl
models_handed b i (m ∷ ms) r h = ap₂ ◌∷◌
    (ap (λ s. take (model_length b.vars s) s) assoc
    ∙ take_at (model_bytes m) (later ++ r) _ (sym (model_length_back b.vars m (later ++ r) same)))
    (ap (λ s. model_records b.vars (length ms) (drop (model_length b.vars s) s)) assoc
    ∙ ap (model_records b.vars (length ms)) (model_rest b.vars m (later ++ r) same)
    ∙ models_handed b (suc i) ms r (and_right (held_model_sound b m) _ h))
  where
    same : m.n ≡ b.vars
    same = (model_facts b m (and_left (held_model_sound b m) _ h)).same_n

    later : List ℕ
    later = join (map model_bytes ms)

    assoc : model_bytes m ++ later ++ r ≡ model_bytes m ++ (later ++ r)
    assoc = append_assoc (model_bytes m) later r

steps_handed : (l : List HeldStep) (r : List ℕ)
    → step_records (length l) (join (map step_bytes l) ++ r) ≡ map step_bytes l
unfolding step_records join
steps_handed [] r = refl
steps_handed (s ∷ l) r = ap₂ ◌∷◌
    (ap (take step_length) assoc ∙ take_at (step_bytes s) (later ++ r) step_length (length_step s))
    (ap (λ x. step_records (length l) (drop step_length x)) assoc
    ∙ ap (step_records (length l)) (drop_at (step_bytes s) (later ++ r) step_length (length_step s)) ∙ steps_handed l r)
  where
    later : List ℕ
    later = join (map step_bytes l)

    assoc : step_bytes s ++ later ++ r ≡ step_bytes s ++ (later ++ r)
    assoc = append_assoc (step_bytes s) later r

-- of the sheet of a book
module _ (h : HeldBook) (p : HeldPasses h) where
  abbrev P : List ℕ
  P = models_bytes h

  abbrev Q : List ℕ
  Q = join (map step_bytes h.steps)

  sheet_records : records (sheet_bytes h) ≡ book_records h
  unfolding records book_records sheet_bytes said models_bytes outline_of outline
  sheet_records =
      ap (λ t. model_records t.n t.models (sheet_bytes h)
      ++ step_records t.steps (drop t.offset (sheet_bytes h)))
      (sheet_trailer h p)
      ∙ ap₂ ◌++◌ (models_handed (outline_of h) 0 h.models (Q ++ trailer_bytes h) p.models)
      (ap (step_records (length h.steps)) (drop_at P (Q ++ trailer_bytes h) (length P) refl)
      ∙ steps_handed h.steps (trailer_bytes h))

  sheet_joined : join (book_records h) ++ trailer_bytes h ≡ sheet_bytes h
  unfolding book_records sheet_bytes models_bytes
  sheet_joined = ap (λ x. x ++ trailer_bytes h) (join-++ (map model_bytes h.models) (map step_bytes h.steps))
      ∙ append_assoc P Q (trailer_bytes h)

-- THEOREMS, of a sheet that is read
module _ (s : List ℕ) (h : HeldBook) (y : AllBytes s) (e : read s ≡ done h) where
  is_sheet : sheet_bytes h ≡ s
  is_sheet = read_sheet s h e y

  -- the records are those of its book, in order
  pub records_are : records s ≡ book_records h
  records_are = subst (λ x. records x ≡ book_records h) is_sheet (sheet_records h (read_passes s h e))

  -- which opening the sheet hands out
  pub opened_are : opened s ≡ done (book_records h)
  unfolding opened ◌followed_by◌
  opened_are = ap (λ r. r followed_by (λ h. done (records s))) e ∙ ap done records_are

  -- one after another, and then the trailer, they are the sheet
  pub records_joined : join (records s) ++ trailer_of s ≡ s
  records_joined = ap₂ (λ l r. join l ++ r) records_are
      (ap trailer_of (sym is_sheet) ∙ trailer_back h (read_passes s h e))
      ∙ sheet_joined h (read_passes s h e) ∙ is_sheet

  -- as many as there are models and steps
  pub records_count : length (records s) ≡ length h.models + length h.steps
  unfolding book_records
  records_count = ap length records_are ∙ length-append (map model_bytes h.models) (map step_bytes h.steps)
      ∙ ap₂ ◌+◌ (length-map h.models model_bytes) (length-map h.steps step_bytes)
