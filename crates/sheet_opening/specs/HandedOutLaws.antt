-- Stepping hands out the records of the sheet in order and after these none; of a refused sheet it hands out none.
use Rattle.std.specs.Prelude.{◌≡◌, ltb, get_or, drop}
use Rattle.std.proofs.Math.Path.{refl, sym, ap, ap₂, subst}
use Rattle.std.proofs.Common.{◌∙◌, length-append, length-drop, take_all}
use Rattle.std.proofs.Math.Bool.{cond}
use mathlib.Core.List.{List, [], ◌∷◌, ◌++◌}
use Rattle.std.proofs.Math.Option.{none, some}
use Prim.Native.Nat.{ℕ, zero, suc, ◌+◌, ◌-◌, ◌≤◌, ◌<◌}
use native.Mathlib.Omega.{arith}
use borrow.Author.Tests.{lt-ltb, le-ltb}
use Rattle.std.proofs.Math.ListN.{length, get_elem?, take}
use Rattle.std.proofs.Math.Seq.{take_at}
use Rattle.calculus.specs.Refusal.{Refusal, Result, done, stopped, ◌followed_by◌, returned}
use Rattle.format.specs.Bytes.{AllBytes, join}
use Rattle.format.specs.HeldBook.{HeldBook}
use Rattle.format.specs.Format.{trailer_of, read, records, opened, returned_records, handed_out}
use Rattle.format.proofs.RecordLaws.{book_records, records_are, records_joined, records_count}
use Rattle.format.proofs.PlaceLaws.{record_place, next_place, last_place, trailer_eight, here, model_size, step_size}
use Rattle.format.proofs.PlaceLaws.{trailer_vars}
use Rattle.format.proofs.PlaceLaws.{model_before, step_after}
use Rattle.sheet_record_places.specs.Places.{first_step, vars_of, record_size, length_at, next_at, bytes_at, kind_at}
use Rattle.sheet_record_places.specs.PlacesLaws.{size_step, size_some, kind_none, kind_model, kind_step}
use Rattle.sheet_book.specs.declared.Kind.TheVariants.{Model, Step, End}
use Rattle.sheet_opening.specs.Opening.{start_of, start, place_after, asked, if_any, bytes_of, record_bytes}
use Rattle.sheet_opening.specs.Opening.{kind_of}
use Rattle.sheet_opening.specs.OpeningLaws.{value_accepted}

-- ---- lists
-- the element there is where there is one
element_in : (l : List (List ℕ)) (i : ℕ) → i < length l → get_elem? l i ≡ some (get_or l i [])
element_in [] i h = absurd (omega arith)
element_in (x ∷ l) zero h = refl
element_in (x ∷ l) (suc i) h = element_in l i (omega arith)

element_out : (l : List (List ℕ)) (i : ℕ) → length l ≤ i → get_elem? l i ≡ none
element_out [] i h = refl
element_out (x ∷ l) zero h = absurd (omega arith)
element_out (x ∷ l) (suc i) h = element_out l i (omega arith)

some_bytes : (s : List ℕ) → 0 < length s → if_any s ≡ some s
unfolding if_any
some_bytes [] h = absurd (omega arith)
some_bytes (b ∷ s) h = refl

-- the bytes are had back from what is handed out
pub bytes_if_any : (s : List ℕ) → bytes_of (if_any s) ≡ s
unfolding if_any bytes_of
bytes_if_any [] = refl
bytes_if_any (b ∷ s) = refl

-- ---- cases
data Order (i n : ℕ) : Type 0 where
  before : i < n → Order i n
  beyond : (k : ℕ) → i ≡ n + k → Order i n

order : (i n : ℕ) → Order i n
order i zero = beyond i (omega arith)
order zero (suc n) = before (omega arith)
order (suc i) (suc n) = go (order i n)
  where
    go : Order i n → Order (suc i) (suc n)
    go (before h) = before (omega arith)
    go (beyond k e) = beyond k (omega arith)

-- where nothing is left of the records
none_left : (s : List ℕ) (at : ℕ) → length s - 8 ≤ at → length_at s at ≡ 0
unfolding length_at
none_left s at h = omega arith

-- ---- of a sheet that is read
module _ (s : List ℕ) (h : HeldBook) (y : AllBytes s) (e : read s ≡ done h) where
  size_model_here : (i : ℕ) → i < length h.models
      → record_size s (record_place s i) ≡ length (get_or (records s) i [])
  unfolding first_step vars_of record_size
  size_model_here i l =
      rw (lt-ltb (record_place s i) (first_step s) (model_before s h y e i l), trailer_vars s h y e)
      (model_size s h y e i l)

  size_step_here : (k : ℕ) → k < length h.steps
      → record_size s (record_place s (length h.models + k)) ≡ length (get_or (records s) (length h.models + k) [])
  unfolding first_step
  size_step_here k l = size_step s (record_place s (length h.models + k)) (step_after s h y e k)
      ∙ sym (step_size s h y e k l)

  -- where record i stands a record of its length is found
  size_here : (i : ℕ) → i < length (records s) → record_size s (record_place s i) ≡ length (get_or (records s) i [])
  size_here i l = go (order i (length h.models))
    where
      go : Order i (length h.models) → record_size s (record_place s i) ≡ length (get_or (records s) i [])
      go (before b) = size_model_here i b
      go (beyond k q) = subst (λ i. record_size s (record_place s i) ≡ length (get_or (records s) i [])) (sym q)
          (size_step_here k (omega (arith, records_count s h y e)))

  -- THEOREM: no record is empty
  pub not_empty : (i : ℕ) → i < length (records s) → 0 < length (get_or (records s) i [])
  not_empty i l = omega (arith, size_here i l, size_some s (record_place s i))

  -- all records lie before the trailer
  room_here : (i : ℕ) → i < length (records s)
      → length (get_or (records s) i []) + record_place s i + 8 ≤ length s
  room_here i l = omega (
    arith,
    ap length (here s h y e i l),
    length-drop (record_place s i) s,
    length-append (get_or (records s) i []) (join (drop (suc i) (records s)) ++ trailer_of s),
    length-append (join (drop (suc i) (records s))) (trailer_of s),
    trailer_eight s h y e,
  )

  length_here : (i : ℕ) → i < length (records s) → length_at s (record_place s i) ≡ length (get_or (records s) i [])
  unfolding length_at
  length_here i l = omega (arith, size_here i l, room_here i l)

  place_beyond : (k : ℕ) → record_place s (length (records s) + k) + 8 ≡ length s
  unfolding record_place
  place_beyond k =
      ap (λ l. length (join l) + 8) (take_all (length (records s) + k) (records s) (omega arith)
      ∙ sym (take_all (length (records s)) (records s) (omega arith)))
      ∙ last_place s h y e

  next_in : (i : ℕ) → i < length (records s) → next_at s (record_place s i) ≡ record_place s (suc i)
  unfolding next_at
  next_in i l = ap (λ k. record_place s i + k) (length_here i l) ∙ sym (next_place s h y e i l)

  next_beyond : (k : ℕ)
      → next_at s (record_place s (length (records s) + k)) ≡ record_place s (suc (length (records s) + k))
  unfolding next_at
  next_beyond k =
      let a = place_beyond k in
      let b = place_beyond (suc k) in
      let n : length (records s) + suc k ≡ suc (length (records s) + k) = omega arith in
      let c = ap (record_place s) n in
      omega (arith, none_left s (record_place s (length (records s) + k)) (omega arith))

  -- from the place of a record a step leads to that of the next, and from the place after the last nowhere
  next_here : (i : ℕ) → next_at s (record_place s i) ≡ record_place s (suc i)
  next_here i = go (order i (length (records s)))
    where
      go : Order i (length (records s)) → next_at s (record_place s i) ≡ record_place s (suc i)
      go (before b) = next_in i b
      go (beyond k q) = subst (λ i. next_at s (record_place s i) ≡ record_place s (suc i)) (sym q) (next_beyond k)

  start_here : start s ≡ record_place s 0
  unfolding start opened start_of ◌followed_by◌ record_place join
  start_here = ap (λ r. start_of (r followed_by (λ h. done (records s))) (length s)) e

  -- THEOREM: after i steps the offset is the place of record i
  pub place_walked : (i : ℕ) → place_after s i ≡ record_place s i
  unfolding place_after
  place_walked zero = start_here
  place_walked (suc i) = ap (next_at s) (place_walked i) ∙ next_here i

  bytes_in : (i : ℕ) → i < length (records s) → bytes_at s (record_place s i) ≡ get_or (records s) i []
  unfolding bytes_at
  bytes_in i l = ap₂ take (length_here i l) (here s h y e i l)
      ∙ take_at (get_or (records s) i []) (join (drop (suc i) (records s)) ++ trailer_of s) _ refl

  bytes_beyond : (k : ℕ) → bytes_at s (record_place s (length (records s) + k)) ≡ []
  unfolding bytes_at
  bytes_beyond k = ap (λ n. take n (drop (record_place s (length (records s) + k)) s))
      (none_left s (record_place s (length (records s) + k)) (omega (arith, place_beyond k)))

  handed_in : (i : ℕ) → i < length (records s) → if_any (bytes_at s (record_place s i)) ≡ get_elem? (records s) i
  handed_in i l = ap if_any (bytes_in i l) ∙ some_bytes (get_or (records s) i []) (not_empty i l)
      ∙ sym (element_in (records s) i l)

  handed_beyond : (k : ℕ)
      → if_any (bytes_at s (record_place s (length (records s) + k))) ≡ get_elem? (records s) (length (records s) + k)
  unfolding if_any
  handed_beyond k = ap if_any (bytes_beyond k) ∙ sym (element_out (records s) (length (records s) + k) (omega arith))

  handed_accepted : (i : ℕ) → if_any (asked s i) ≡ handed_out s i
  unfolding asked handed_out
  handed_accepted i = ap (λ p. if_any (bytes_at s p)) (place_walked i) ∙ go (order i (length (records s)))
      ∙ ap (λ l. get_elem? l i) (sym (value_accepted s (record { book = h; is_read = e })))
    where
      go : Order i (length (records s)) → if_any (bytes_at s (record_place s i)) ≡ get_elem? (records s) i
      go (before b) = handed_in i b
      go (beyond k q) = subst (λ i. if_any (bytes_at s (record_place s i)) ≡ get_elem? (records s) i) (sym q)
          (handed_beyond k)

  -- what is at hand is a model, a step or none as the book has it
  kind_model_here : (i : ℕ) → i < length h.models → kind_at s (record_place s i) ≡ Model
  unfolding first_step
  kind_model_here i l =
      let n = records_count s h y e in
      kind_model s (record_place s i) (omega (arith, room_here i (omega arith), not_empty i (omega arith)))
      (model_before s h y e i l)

  kind_step_here : (k : ℕ) → k < length h.steps → kind_at s (record_place s (length h.models + k)) ≡ Step
  unfolding first_step
  kind_step_here k l =
      let n = records_count s h y e in
      let i = length h.models + k in
      kind_step s (record_place s i) (omega (arith, room_here i (omega arith), not_empty i (omega arith)))
      (step_after s h y e k)

  kind_beyond : (k : ℕ) → kind_at s (record_place s (length (records s) + k)) ≡ End
  kind_beyond k = kind_none s (record_place s (length (records s) + k)) (omega (arith, place_beyond k))

  abbrev m : ℕ
  m = length h.models

  abbrev c : ℕ
  c = length h.steps

  kind_here : (i : ℕ) → kind_at s (record_place s i) ≡ kind_of m c i
  unfolding kind_of
  kind_here i = go (order i m)
    where
      far : (k : ℕ) → i ≡ m + k → Order k c
          → kind_at s (record_place s i) ≡ cond (ltb i m) Model (cond (ltb i (m + c)) Step End)
      far k q (before b) = rw (le-ltb i m (omega arith), lt-ltb i (m + c) (omega arith))
          (subst (λ i. kind_at s (record_place s i) ≡ Step) (sym q) (kind_step_here k b))
      far k q (beyond j r) = rw (le-ltb i m (omega arith), le-ltb i (m + c) (omega arith))
          (subst (λ i. kind_at s (record_place s i) ≡ End)
          (let z : length (records s) + j ≡ i = omega (arith, records_count s h y e) in z) (kind_beyond j))

      go : Order i m → kind_at s (record_place s i) ≡ cond (ltb i m) Model (cond (ltb i (m + c)) Step End)
      go (before b) = rw (lt-ltb i m b) (kind_model_here i b)
      go (beyond k q) = far k q (order k c)

  -- THEOREM: after i steps a model is at hand, or a step, or none, as the counts say
  pub kind_walked : (i : ℕ) → kind_at s (place_after s i) ≡ kind_of m c i
  kind_walked i = ap (kind_at s) (place_walked i) ∙ kind_here i

  -- THEOREM: the records handed out are those of the book, in order; with the trailer they are the whole sheet
  pub asked_book : (i : ℕ) → if_any (asked s i) ≡ get_elem? (book_records h) i
  unfolding handed_out
  asked_book i = handed_accepted i
      ∙ ap (λ l. get_elem? l i) (value_accepted s (record { book = h; is_read = e }) ∙ records_are s h y e)

  pub asked_whole : join (book_records h) ++ trailer_of s ≡ s
  asked_whole = ap (λ l. join l ++ trailer_of s) (sym (records_are s h y e)) ∙ records_joined s h y e

-- ---- of a sheet that is refused
module _ (s : List ℕ) (x : Refusal) (p : ℕ) (e : read s ≡ stopped x p) where
  start_end : start s ≡ length s
  unfolding start opened start_of ◌followed_by◌
  start_end = ap (λ r. start_of (r followed_by (λ h. done (records s))) (length s)) e

  next_end : next_at s (length s) ≡ length s
  unfolding next_at
  next_end = omega (arith, none_left s (length s) (omega arith))

  pub place_end : (i : ℕ) → place_after s i ≡ length s
  unfolding place_after
  place_end zero = start_end
  place_end (suc i) = ap (next_at s) (place_end i) ∙ next_end

  bytes_end : bytes_at s (length s) ≡ []
  unfolding bytes_at
  bytes_end = ap (λ n. take n (drop (length s) s)) (none_left s (length s) (omega arith))

  -- THEOREM: none is ever handed out
  pub asked_refused : (i : ℕ) → asked s i ≡ []
  unfolding asked
  asked_refused i = ap (bytes_at s) (place_end i) ∙ bytes_end

  handed_refused : (i : ℕ) → if_any (asked s i) ≡ handed_out s i
  unfolding if_any handed_out returned_records opened returned ◌followed_by◌
  handed_refused i = ap if_any (asked_refused i)
      ∙ sym (ap (λ r. get_elem? (returned [] (r followed_by (λ h. done (records s)))).value i) e)

-- ---- THEOREM: whatever the bytes, asking again and again hands out what opening a sheet hands out
module _ (s : List ℕ) (y : AllBytes s) (i : ℕ) where
  by_read : (r : Result HeldBook) → read s ≡ r → if_any (asked s i) ≡ handed_out s i
  by_read (done h) e = handed_accepted s h y e i
  by_read (stopped x p) e = handed_refused s x p e i

  pub asked_hands_out : if_any (asked s i) ≡ handed_out s i
  asked_hands_out = by_read (read s) refl

  -- the bytes are those of what is handed out, empty where that is none
  pub asked_bytes : asked s i ≡ record_bytes s i
  unfolding record_bytes
  asked_bytes = sym (bytes_if_any (asked s i)) ∙ ap bytes_of asked_hands_out

-- from the number of records on none
pub record_none : (s : List ℕ) (i : ℕ) → length (returned_records s).value ≤ i → record_bytes s i ≡ []
unfolding record_bytes handed_out bytes_of
record_none s i l = ap bytes_of (element_out (returned_records s).value i l)

-- where there are records the start is 0
start_some : (s : List ℕ) (r : Result HeldBook)
    → 0 < length (returned [] (r followed_by (λ h. done (records s)))).value
    → start_of (r followed_by (λ h. done (records s))) (length s) ≡ 0
unfolding returned ◌followed_by◌ start_of
start_some s (done h) l = refl
start_some s (stopped x p) l = absurd (omega arith)

pub first_place : (s : List ℕ) → 0 < length (returned_records s).value → 0 ≡ place_after s 0
unfolding returned_records opened start place_after
first_place s l = sym (start_some s (read s) l)

-- one step more
pub place_more : (s : List ℕ) (i at p : ℕ) → at ≡ place_after s i → p ≡ next_at s at → p ≡ place_after s (i + 1)
unfolding place_after
place_more s i at p e q = q ∙ ap (next_at s) e
    ∙ ap (place_after s) (let n : suc i ≡ i + 1 = omega arith in n)
