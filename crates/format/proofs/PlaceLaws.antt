-- Stepping by places: where each record stands, and what is read there.
use Rattle.std.specs.Prelude.{◌≡◌, refl, ℕ, zero, suc, ◌+◌, ◌≤◌, ◌<◌, T, pos, take, drop}
use Rattle.std.proofs.Common.{sym, ◌∙◌, ap₂, take-append-drop, take_at, take-suc, drop-cons}
use Rattle.std.proofs.Math.Path.{ap, subst}
use mathlib.Core.List.{List, [], ◌∷◌, ◌++◌, map, append_assoc}
use native.Mathlib.Omega.{arith}
use Rattle.std.proofs.Math.ListN.{length, get_or, length-append, get_or-append, get_or-map}
use Rattle.std.proofs.lemmas.List.{length-map, take-append-le}
use Rattle.std.proofs.Math.Seq.{take-length, take-append-add, drop-append-add, get_or-append-add}
use Rattle.calculus.specs.Refusal.{done, all_from}
use Rattle.calculus.specs.Book.{Book}
use Rattle.calculus_laws.specs.TestLaws.{and_left, and_right}
use Rattle.format.specs.Bytes.{AllBytes, join}
use Rattle.format.specs.BytesLaws.{join-++}
use Rattle.format.specs.HeldBook.{HeldModel, HeldStep, HeldBook, outline, outline_of, held_model_sound}
use Rattle.format.proofs.SmallLaws.{model_facts}
use Rattle.format.specs.Format.{step_length, trailer_length, model_length}
use Rattle.format.specs.Format.{trailer_of, read_trailer, read, records}
use Rattle.format.specs.Format.{model_bytes, step_bytes, models_bytes}
use Rattle.format.proofs.ReadBackLaws.{length_model, length_step, length_trailer, model_length_back}
use Rattle.format.proofs.ReadBackLaws.{trailer_back, said, sheet_trailer}
use Rattle.format.proofs.WriteBackLaws.{read_passes, read_sheet}
use Rattle.format.proofs.RecordLaws.{book_records, records_are, records_joined, records_count}

-- the place of record i
unfoldable pub record_place : List ℕ → (i : ℕ) → ℕ
record_place s i = length (join (take i (records s)))

-- ---- lists one after another
join_split : (l : List (List ℕ)) (r : List ℕ) (i : ℕ) → i < length l
    → drop (length (join (take i l))) (join l ++ r) ≡ get_or l i [] ++ (join (drop (suc i) l) ++ r)
unfolding join
join_split [] r i h = absurd (omega arith)
join_split (x ∷ l) r zero h = append_assoc x (join l) r
join_split (x ∷ l) r (suc i) h =
    ap₂ drop (length-append x (join (take i l))) (append_assoc x (join l) r)
    ∙ drop-append-add x (join l ++ r) (length (join (take i l)))
    ∙ join_split l r i (omega arith)

-- a part of which a record is left is shorter
part_shorter : (l : List (List ℕ)) (i : ℕ) → i < length l → 0 < length (get_or l i [])
    → length (join (take i l)) < length (join l)
unfolding join
part_shorter l i h p =
    let e = ap length (ap join (sym (take-append-drop i l)) ∙ join-++ (take i l) (drop i l)
    ∙ ap (λ k. join (take i l) ++ join k) (drop-cons l i [] h)) in
    let f = length-append (join (take i l)) (get_or l i [] ++ join (drop (suc i) l)) in
    let g = length-append (get_or l i []) (join (drop (suc i) l)) in
    omega arith

-- within a list the default does not matter
pub get_d_any : {A : Type 0} (l : List A) (i : ℕ) (d c : A) → i < length l → get_or l i d ≡ get_or l i c
get_d_any [] i d c h = absurd (omega arith)
get_d_any (x ∷ l) zero d c h = refl
get_d_any (x ∷ l) (suc i) d c h = get_d_any l i d c (omega arith)

-- models that pass have the n of their book
models_vars : (b : Book) (i : ℕ) (ms : List HeldModel) (d : HeldModel) (j : ℕ)
    → T (all_from i (λ i. held_model_sound b) ms) → j < length ms → (get_or ms j d).n ≡ b.vars
unfolding all_from
models_vars b i [] d j h l = absurd (omega arith)
models_vars b i (m ∷ ms) d zero h l = (model_facts b m (and_left (held_model_sound b m) _ h)).same_n
models_vars b i (m ∷ ms) d (suc j) h l =
    models_vars b (suc i) ms d j (and_right (held_model_sound b m) _ h) (omega arith)

-- ---- of a sheet that is read
module _ (s : List ℕ) (h : HeldBook) (y : AllBytes s) (e : read s ≡ done h) where
  abbrev A : List (List ℕ)
  A = map model_bytes h.models

  abbrev B : List (List ℕ)
  B = map step_bytes h.steps

  -- the next record stands after this one
  pub next_place : (i : ℕ) → i < length (records s)
      → record_place s (suc i) ≡ record_place s i + length (get_or (records s) i [])
  unfolding record_place join
  next_place i l = ap (λ k. length (join k)) (take-suc (records s) i [] l)
      ∙ ap length (join-++ (take i (records s)) (get_or (records s) i [] ∷ []))
      ∙ length-append (join (take i (records s))) (get_or (records s) i [] ++ [])
      ∙ ap (λ k. length (join (take i (records s))) + k)
      (length-append (get_or (records s) i []) [] ∙ omega arith)

  -- the length of the trailer
  pub trailer_eight : length (trailer_of s) ≡ trailer_length
  trailer_eight = ap length (ap trailer_of (sym (read_sheet s h e y)) ∙ trailer_back h (read_passes s h e))
      ∙ length_trailer h

  -- after the last the trailer
  pub last_place : record_place s (length (records s)) + trailer_length ≡ length s
  unfolding record_place
  last_place =
      let a = ap (λ k. length (join k)) (take-length (records s)) in
      let b = ap length (records_joined s h y e) in
      let c = length-append (join (records s)) (trailer_of s) in
      omega (arith, trailer_eight)

  -- where a record stands, it and all that follows are left
  pub here : (i : ℕ) → i < length (records s)
      → drop (record_place s i) s ≡ get_or (records s) i [] ++ (join (drop (suc i) (records s)) ++ trailer_of s)
  unfolding record_place
  here i l = ap (drop (length (join (take i (records s))))) (sym (records_joined s h y e))
      ∙ join_split (records s) (trailer_of s) i l

  some_model : HeldModel
  some_model = record { n = 0; radius = 0; terms = [] }

  some_step : HeldStep
  some_step = record { code = 0; a = 0; b = 0; v = 0; value = pos 0 }

  model_in : (i : ℕ) → i < length h.models
      → get_or (records s) i [] ≡ model_bytes (get_or h.models i some_model)
  unfolding book_records
  model_in i l = ap (λ k. get_or k i []) (records_are s h y e)
      ∙ get_or-append A B [] i (subst (λ k. i < k) (sym (length-map h.models model_bytes)) l)
      ∙ get_d_any A i [] (model_bytes some_model) (subst (λ k. i < k) (sym (length-map h.models model_bytes)) l)
      ∙ get_or-map model_bytes h.models i some_model

  -- a model has the n of the book
  model_vars : (i : ℕ) → i < length h.models → (get_or h.models i some_model).n ≡ h.n
  unfolding outline_of outline
  model_vars i l = models_vars (outline_of h) 0 h.models some_model i (read_passes s h e).models l

  -- which the trailer says
  pub trailer_vars : (read_trailer (trailer_of s)).n ≡ h.n
  unfolding said
  trailer_vars = ap (λ x. (read_trailer (trailer_of x)).n) (sym (read_sheet s h e y))
      ∙ ap (λ t. t.n) (sheet_trailer h (read_passes s h e))

  -- a model's record is found by its term count,
  pub model_here : (i : ℕ) → i < length h.models
      → take (model_length h.n (drop (record_place s i) s)) (drop (record_place s i) s) ≡ get_or (records s) i []
  model_here i l =
      ap (λ x. take (model_length h.n x) x)
      (here i (omega (arith, records_count s h y e)) ∙ ap (λ r. r ++ rest) (model_in i l))
      ∙ take_at (model_bytes m) rest _ (sym (model_length_back h.n m rest (model_vars i l)))
      ∙ sym (model_in i l)
    where
      rest : List ℕ
      rest = join (drop (suc i) (records s)) ++ trailer_of s

      m : HeldModel
      m = get_or h.models i some_model

  -- and is as long as that says
  pub model_size : (i : ℕ) → i < length h.models
      → model_length h.n (drop (record_place s i) s) ≡ length (get_or (records s) i [])
  model_size i l =
      ap (model_length h.n) (here i (omega (arith, records_count s h y e)) ∙ ap (λ r. r ++ rest) (model_in i l))
      ∙ model_length_back h.n (get_or h.models i some_model) rest (model_vars i l)
      ∙ ap length (sym (model_in i l))
    where
      rest : List ℕ
      rest = join (drop (suc i) (records s)) ++ trailer_of s

  step_in : (k : ℕ) → k < length h.steps
      → get_or (records s) (length h.models + k) [] ≡ step_bytes (get_or h.steps k some_step)
  unfolding book_records
  step_in k l = ap (λ x. get_or x (length h.models + k) []) (records_are s h y e)
      ∙ ap (λ i. get_or (A ++ B) (i + k) []) (sym (length-map h.models model_bytes))
      ∙ get_or-append-add A B k []
      ∙ get_d_any B k [] (step_bytes some_step) (subst (λ i. k < i) (sym (length-map h.steps step_bytes)) l)
      ∙ get_or-map step_bytes h.steps k some_step

  -- that of a step
  pub step_here : (k : ℕ) → k < length h.steps
      → take step_length (drop (record_place s (length h.models + k)) s)
      ≡ get_or (records s) (length h.models + k) []
  step_here k l =
      ap (take step_length)
      (here (length h.models + k) (omega (arith, records_count s h y e)) ∙ ap (λ r. r ++ rest) (step_in k l))
      ∙ take_at (step_bytes x) rest step_length (length_step x)
      ∙ sym (step_in k l)
    where
      rest : List ℕ
      rest = join (drop (suc (length h.models + k)) (records s)) ++ trailer_of s

      x : HeldStep
      x = get_or h.steps k some_step

  pub step_size : (k : ℕ) → k < length h.steps → length (get_or (records s) (length h.models + k) []) ≡ step_length
  step_size k l = ap length (step_in k l) ∙ length_step (get_or h.steps k some_step)

  offset_is : (read_trailer (trailer_of s)).offset ≡ length (join A)
  unfolding said models_bytes
  offset_is = ap (λ x. (read_trailer (trailer_of x)).offset) (sym (read_sheet s h e y))
      ∙ ap (λ t. t.offset) (sheet_trailer h (read_passes s h e))

  -- models stand before the offset of the first step,
  pub model_before : (i : ℕ) → i < length h.models → record_place s i < (read_trailer (trailer_of s)).offset
  unfolding record_place book_records
  model_before i l = omega (
    arith,
    offset_is,
    ap (λ x. length (join (take i x))) (records_are s h y e),
    ap (λ x. length (join x)) (take-append-le i A B (omega (arith, inside))),
    part_shorter A i inside (omega (arith, ap length in_A, length_model (get_or h.models i some_model))),
  )
    where
      inside : i < length A
      inside = subst (λ k. i < k) (sym (length-map h.models model_bytes)) l

      in_A : get_or A i [] ≡ model_bytes (get_or h.models i some_model)
      in_A = get_d_any A i [] (model_bytes some_model) inside ∙ get_or-map model_bytes h.models i some_model

  -- steps from there on
  pub step_after : (k : ℕ) → (read_trailer (trailer_of s)).offset ≤ record_place s (length h.models + k)
  unfolding record_place book_records
  step_after k = omega (
    arith,
    offset_is,
    ap (λ x. length (join (take (length h.models + k) x))) (records_are s h y e),
    ap (λ i. length (join (take (i + k) (A ++ B)))) (length-map h.models model_bytes),
    ap (λ x. length (join x)) (take-append-add A B k),
    ap length (join-++ A (take k B)),
    length-append (join A) (join (take k B)),
  )
