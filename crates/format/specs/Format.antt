-- The bytes of a sheet: reading by tests 1 to 6, stepping through its records, writing, and its run.
use Rattle.std.specs.Prelude.{Bool, cond, ◌&&◌, ◌||◌, List, [], ◌∷◌, ◌++◌, map, ℕ, zero, suc, ◌+◌, ◌-◌, ◌*◌, ◌/◌, eqb, leb, length, take, drop}
use Rattle.std.proofs.Math.Option.{Option}
use Rattle.std.proofs.Math.ListN.{get_elem?}
use Rattle.calculus.specs.Key.{short_width, short_key}
use Rattle.calculus.specs.Model.{between}
use Rattle.calculus.specs.Refusal.{bad_length, bad_mark, bad_limits, bad_offset, bad_model, bad_step, short_buffer}
use Rattle.calculus.specs.Refusal.{Result, done, stopped, require_at, require_each, ◌followed_by◌, Returned, returned}
use Rattle.calculus.specs.Book.{Book, limits_sound, Summary, run_sound}
use Rattle.calculus.specs.Shares.{Shares, rows_sound, reported}
use Rattle.format.specs.Bytes.{byte, join, u16, u32, u16_bytes, u32_bytes, signed, bits}
use Rattle.format.specs.HeldBook.{HeldTerm, HeldModel, HeldStep, HeldBook, zero_book, view_book, outline}
use Rattle.format.specs.HeldBook.{held_model_sound, held_step_sound, held_tested}

-- ---- the lengths of the parts, in bytes
-- of a model before its terms: radius and term count
abbrev pub head_length : ℕ
head_length = 5

-- keys are short with n of 1 to 4, long with n of 5 to 8
unfoldable pub short_keys : (n : ℕ) → Bool
short_keys n = leb n short_width

-- of a key: the first half of its 32 bits where it is short, since the other exponents are 0
unfoldable pub key_length : (n : ℕ) → ℕ
key_length n = cond (short_keys n) 2 4

-- of a term: key and coefficient
unfoldable pub term_length : (n : ℕ) → ℕ
term_length n = key_length n + 4

-- of a step
abbrev pub step_length : ℕ
step_length = 8

-- of the trailer
abbrev pub trailer_length : ℕ
trailer_length = 8

-- ---- models: radius (4 bytes), term count (1), then per term the key (2, or 4) and the coefficient (4)
-- the key at the head
unfoldable pub read_key : (n : ℕ) → List ℕ → ℕ
read_key n s = cond (short_keys n) (u16 s * short_key) (u32 s)

-- the term at the head
unfoldable pub read_term : (n : ℕ) → List ℕ → HeldTerm
read_term n s = record { key = read_key n s; coefficient = signed (u32 (drop (key_length n) s)) }

-- c terms
unfoldable pub read_terms : (n c : ℕ) → List ℕ → List HeldTerm
read_terms n zero s = []
read_terms n (suc c) s = read_term n s ∷ read_terms n c (drop (term_length n) s)

-- the model at the head
unfoldable pub read_model : (n : ℕ) → List ℕ → HeldModel
read_model n s = record { n = n; radius = u32 s; terms = read_terms n (byte 4 s) (drop head_length s) }

-- the length of its record
unfoldable pub model_length : (n : ℕ) → List ℕ → ℕ
model_length n s = head_length + term_length n * byte 4 s

-- test 5 of c more models, after those read before: the first whose record does not fit or that breaks a rule decides,
-- and after the last record nothing may be left
unfoldable pub read_models : Book → (before : List HeldModel) (c : ℕ) → List ℕ → Result (List HeldModel)
read_models book before zero [] = done before
read_models book before zero (b ∷ s) = stopped bad_model (length before)
read_models book before (suc c) s =
    let m : HeldModel = read_model book.vars s in
    require_at (length before) (leb (model_length book.vars s) (length s) && held_model_sound book m) bad_model
    (read_models book (before ++ (m ∷ [])) c (drop (model_length book.vars s) s))

-- ---- steps: code, a, b, v (a byte each), value (4)
-- the step at the head
unfoldable pub read_step : List ℕ → HeldStep
read_step s =
    record { code = byte 0 s; a = byte 1 s; b = byte 2 s; v = byte 3 s; value = signed (u32 (drop 4 s)) }

-- c steps
unfoldable pub read_steps : (c : ℕ) → List ℕ → List HeldStep
read_steps zero s = []
read_steps (suc c) s = read_step s ∷ read_steps c (drop step_length s)

-- ---- trailer: n, d, model count, step count (a byte each), offset of the first step (2), hex 4D 4B or 4D 57
-- the last byte of the mark of short keys
abbrev pub short_mark : ℕ
short_mark = 0x4B

-- of long ones
abbrev pub long_mark : ℕ
long_mark = 0x57

-- that of n variables
unfoldable pub mark_of : (n : ℕ) → ℕ
mark_of n = cond (short_keys n) short_mark long_mark

-- what it says: n, d, the counts, the offset, whether one of the marks stands, and its last byte
pub record Trailer : Type 0 where
  pub n : ℕ
  pub d : ℕ
  pub models : ℕ
  pub steps : ℕ
  pub offset : ℕ
  pub marked : Bool
  pub mark : ℕ

-- the last bytes
unfoldable pub trailer_of : List ℕ → List ℕ
trailer_of s = drop (length s - trailer_length) s

-- read from them
unfoldable pub read_trailer : List ℕ → Trailer
read_trailer t = record {
  n = byte 0 t;
  d = byte 1 t;
  models = byte 2 t;
  steps = byte 3 t;
  offset = u16 (drop 4 t);
  marked = eqb (byte 6 t) 0x4D && (eqb (byte 7 t) short_mark || eqb (byte 7 t) long_mark);
  mark = byte 7 t;
}

-- ---- reading
-- the smallest sheet
unfoldable pub shortest : ℕ
shortest = 16

-- the largest sheet
unfoldable pub longest : ℕ
longest = 8792

-- test 3: the limits, and n fits the mark
unfoldable pub trailer_sound : Trailer → Bool
trailer_sound t = limits_sound (outline t.n t.d t.models t.steps) && eqb t.mark (mark_of t.n)

-- tests 3 to 6 of a sheet with a trailer
unfoldable pub read_records : List ℕ → Trailer → Result HeldBook
read_records s t =
    let book : Book = outline t.n t.d t.models t.steps in
    let steps : List HeldStep = read_steps t.steps (drop t.offset s) in
    require_at 0 (trailer_sound t) bad_limits
    (require_at 0 (eqb (t.offset + step_length * t.steps + trailer_length) (length s)) bad_offset
    (read_models book [] t.models (take t.offset s)
    followed_by (λ models. require_each 0 (held_step_sound book) steps bad_step
    (done (record { n = t.n; d = t.d; models = models; steps = steps })))))

-- tests 1 to 6 in order, over the whole sheet
unfoldable pub read : List ℕ → Result HeldBook
read s =
    let t : Trailer = read_trailer (trailer_of s) in
    require_at 0 (between shortest longest (length s)) bad_length
    (require_at 0 t.marked bad_mark (read_records s t))

-- what a read hands back: with a refusal the book of zeros
unfoldable pub returned_book : List ℕ → Returned HeldBook
returned_book s = returned zero_book (read s)

-- the run of a sheet: the read makes all tests
unfoldable pub run_sheet : List ℕ → Result Summary
run_sheet s = read s followed_by (λ h. run_sound (view_book h))

-- and the rows that it reports (request 6): zeros where tests 1 to 6 refuse the sheet
unfoldable pub sheet_rows : List ℕ → List Shares
sheet_rows s = reported (read s followed_by (λ h. done (rows_sound (view_book h))))

-- ---- stepping through a sheet
-- the bytes of c models
unfoldable pub model_records : (n c : ℕ) → List ℕ → List (List ℕ)
model_records n zero s = []
model_records n (suc c) s = take (model_length n s) s ∷ model_records n c (drop (model_length n s) s)

-- the bytes of c steps
unfoldable pub step_records : (c : ℕ) → List ℕ → List (List ℕ)
step_records zero s = []
step_records (suc c) s = take step_length s ∷ step_records c (drop step_length s)

-- each model's bytes, each step's 8 bytes
unfoldable pub records : List ℕ → List (List ℕ)
records s =
    let t : Trailer = read_trailer (trailer_of s) in
    model_records t.n t.models s ++ step_records t.steps (drop t.offset s)

-- opening makes tests 1 to 6; the records are then handed out in order, and after these none
unfoldable pub opened : List ℕ → Result (List (List ℕ))
opened s = read s followed_by (λ h. done (records s))

-- a refused opening hands out none
unfoldable pub returned_records : List ℕ → Returned (List (List ℕ))
returned_records s = returned [] (opened s)

-- what is handed out when it is asked for the i-th time, counted from 0
unfoldable pub handed_out : List ℕ → (i : ℕ) → Option (List ℕ)
handed_out s i = get_elem? (returned_records s).value i

-- ---- writing
-- a key
unfoldable pub key_bytes : (n : ℕ) → ℕ → List ℕ
key_bytes n k = cond (short_keys n) (u16_bytes (k / short_key)) (u32_bytes k)

-- a term
unfoldable pub term_bytes : (n : ℕ) → HeldTerm → List ℕ
term_bytes n t = key_bytes n t.key ++ u32_bytes (bits t.coefficient)

-- a model
unfoldable pub model_bytes : HeldModel → List ℕ
model_bytes m = u32_bytes m.radius ++ (length m.terms ∷ join (map (term_bytes m.n) m.terms))

-- a step
unfoldable pub step_bytes : HeldStep → List ℕ
step_bytes s = s.code ∷ s.a ∷ s.b ∷ s.v ∷ u32_bytes (bits s.value)

-- all models, which stand before the first step
unfoldable pub models_bytes : HeldBook → List ℕ
models_bytes h = join (map model_bytes h.models)

-- the trailer
unfoldable pub trailer_bytes : HeldBook → List ℕ
trailer_bytes h =
    h.n ∷ h.d ∷ length h.models ∷ length h.steps
    ∷ (u16_bytes (length (models_bytes h)) ++ (0x4D ∷ mark_of h.n ∷ []))

-- the sheet of a book
unfoldable pub sheet_bytes : HeldBook → List ℕ
sheet_bytes h = models_bytes h ++ (join (map step_bytes h.steps) ++ trailer_bytes h)

-- tests 3, 5, 6 and 11, then the sheet
unfoldable pub write : HeldBook → (buffer : List ℕ) → Result (List ℕ)
write h buffer =
    let s : List ℕ = sheet_bytes h in
    held_tested h (require_at 0 (leb (length s) (length buffer)) short_buffer (done s))

-- the length that a write answers, and all that the buffer holds after it
pub record Written : Type 0 where
  pub length : ℕ
  pub buffer : List ℕ

-- bytes beyond the length stay; a refused write answers the length 0, and all bytes stay
unfoldable pub written : HeldBook → (buffer : List ℕ) → Returned Written
written h buffer = returned (record { length = 0; buffer = buffer })
    (write h buffer followed_by (λ s. done (record { length = length s; buffer = s ++ drop (length s) buffer })))
