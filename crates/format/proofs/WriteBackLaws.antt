-- What is read is written again.
use Rattle.std.specs.Prelude.{◌≡◌, refl, Bool, ◌&&◌, List, [], ◌∷◌, ◌++◌, map, ℕ, zero, suc, ◌+◌, ◌-◌, ◌*◌, ◌≤◌, T, eqb, leb}
use Rattle.std.proofs.Math.Path.{sym, ap, ap₂}
use Rattle.std.proofs.Common.{◌∙◌, subst, append_assoc, append-nil, arith, le→leb, leb→le, eqb→eq, drop_of_length-le, drop-cons, drop-drop}
use Rattle.std.proofs.Math.Nat as NatL
use Rattle.std.proofs.Math.ListN.{length, take, drop, length-drop, take-append-drop}
use Rattle.std.proofs.Math.Seq.{length-take-le}
use Rattle.calculus.specs.Model.{between}
use Rattle.calculus.specs.Refusal.{bad_length, bad_mark, bad_limits, bad_offset, bad_model, bad_step, short_buffer}
use Rattle.calculus.specs.Refusal.{Result, done, stopped, require_at, require_each, ◌followed_by◌}
use Rattle.calculus.specs.Book.{Book, limits_sound}
use Rattle.calculus_laws.specs.TestLaws.{and_left, and_right, both}
use Rattle.calculus.specs.Refusal.{all_from}
use Rattle.calculus_laws.specs.RefusalLaws.{require_at_passed, Passed, passed_at, passed_each}
use Rattle.calculus_laws.specs.BookLaws.{between_low}
use Rattle.format.specs.Bytes.{byte, AllBytes, join, u16, u32, u16_bytes, u32_bytes}
use Rattle.format.specs.HeldBook.{HeldTerm, HeldModel, HeldStep, HeldBook, outline, outline_of}
use Rattle.format.specs.HeldBook.{held_model_sound, held_step_sound, HeldPasses}
use Rattle.format.specs.Format.{head_length, key_length, term_length, step_length, trailer_length}
use Rattle.format.specs.Format.{read_key, read_term, read_terms, read_model, model_length, read_models}
use Rattle.format.specs.Format.{read_step, read_steps}
use Rattle.format.specs.Format.{mark_of, Trailer, trailer_of, read_trailer}
use Rattle.format.specs.Format.{shortest, longest, trailer_sound, read_records, read}
use Rattle.format.specs.Format.{key_bytes, term_bytes, model_bytes, step_bytes, models_bytes}
use Rattle.format.specs.Format.{trailer_bytes, sheet_bytes}
use Rattle.format.specs.Format.{write}
use Rattle.format.specs.BytesLaws.{bytes_drop, bytes_take, drop_more, u32_below, bits_signed, four}
use Rattle.format.specs.BytesLaws.{write_u16, write_u32}
use Rattle.format.proofs.KeyBytesLaws.{term_parts, key_forth}
use Rattle.format.specs.HeldBookLaws.{held_tested_passes}

-- ---- terms
term_forth : (n : ℕ) (s : List ℕ) → AllBytes s → term_length n ≤ length s
    → term_bytes n (read_term n s) ++ drop (term_length n) s ≡ s
unfolding term_bytes read_term
term_forth n s h l =
    append_assoc (key_bytes n (read_key n s)) _ (drop (term_length n) s)
    ∙ ap (λ r. key_bytes n (read_key n s) ++ r)
    (ap₂ (λ x r. u32_bytes x ++ r) (bits_signed (u32 (drop (key_length n) s)) (u32_below _ later))
    (ap (λ i. drop i s) (term_parts n) ∙ sym (drop-drop 4 (key_length n) s))
    ∙ write_u32 (drop (key_length n) s) later (simp length-drop (omega (arith, l, term_parts n))))
    ∙ key_forth n s h (omega (arith, l, term_parts n))
  where
    later : AllBytes (drop (key_length n) s)
    later = bytes_drop (key_length n) s h

terms_forth : (n c : ℕ) (s : List ℕ) → AllBytes s → term_length n * c ≤ length s
    → join (map (term_bytes n) (read_terms n c s)) ++ drop (term_length n * c) s ≡ s
unfolding join read_terms
terms_forth n zero s h l = ap (λ i. drop i s) (NatL.mul-zero (term_length n))
terms_forth n (suc c) s h l =
    append_assoc (term_bytes n (read_term n s)) _ (drop (term_length n * suc c) s)
    ∙ ap (λ r. term_bytes n (read_term n s) ++ r)
    (ap (λ r. join (map (term_bytes n) (read_terms n c (drop (term_length n) s))) ++ r)
    (sym (drop_more (term_length n) c s))
    ∙ terms_forth n c (drop (term_length n) s) (bytes_drop (term_length n) s h)
    (simp length-drop (omega (arith, l, NatL.mul-suc (term_length n) c))))
    ∙ term_forth n s h (omega (arith, l, NatL.mul-suc (term_length n) c))

pub length_read_terms : (n c : ℕ) (s : List ℕ) → length (read_terms n c s) ≡ c
unfolding read_terms
length_read_terms n zero s = refl
length_read_terms n (suc c) s = ap suc (length_read_terms n c (drop (term_length n) s))

-- ---- models
model_forth : (n : ℕ) (s : List ℕ) → AllBytes s → model_length n s ≤ length s
    → model_bytes (read_model n s) ++ drop (model_length n s) s ≡ s
unfolding model_bytes read_model model_length
model_forth n s h l =
    append_assoc (u32_bytes (u32 s)) (length ts ∷ join (map (term_bytes n) ts))
    (drop (head_length + term_length n * c) s)
    ∙ ap (λ r. u32_bytes (u32 s) ++ r)
    (ap₂ (λ x r. x ∷ join (map (term_bytes n) ts) ++ r) (length_read_terms n c (drop head_length s))
    (sym (drop-drop (term_length n * c) head_length s))
    ∙ ap (λ r. c ∷ r) (terms_forth n c (drop head_length s) (bytes_drop head_length s h)
    (simp length-drop (omega (arith, l))))
    ∙ sym (drop-cons s 4 0 (omega arith)))
    ∙ write_u32 s h (omega arith)
  where
    c : ℕ
    c = byte 4 s

    ts : List HeldTerm
    ts = read_terms n (byte 4 s) (drop head_length s)

-- what a reading of c models has found, after those before
record Found (b : Book) (i c : ℕ) (before ms : List HeldModel) (s : List ℕ) : Type 0 where
  more : List HeldModel
  all : ms ≡ before ++ more
  many : length more ≡ c
  same : AllBytes s → join (map model_bytes more) ≡ s
  sound : T (all_from i (λ i. held_model_sound b) more)

one_more : (b : Book) (i c : ℕ) (before ms : List HeldModel) (s : List ℕ)
    → T (leb (model_length b.vars s) (length s) && held_model_sound b (read_model b.vars s))
    → Found b (suc i) c (before ++ (read_model b.vars s ∷ [])) ms (drop (model_length b.vars s) s)
    → Found b i (suc c) before ms s
unfolding join all_from
one_more b i c before ms s p r = record {
  more = m ∷ r.more;
  all = r.all ∙ append_assoc before (m ∷ []) r.more;
  many = ap suc r.many;
  same = λ y. ap (λ x. model_bytes m ++ x) (r.same (bytes_drop (model_length b.vars s) s y))
      ∙ model_forth b.vars s y (leb→le (model_length b.vars s) (length s)
      (and_left (leb (model_length b.vars s) (length s)) _ p));
  sound = both (held_model_sound b m) _ (and_right (leb (model_length b.vars s) (length s)) _ p) r.sound;
}
  where
    m : HeldModel
    m = read_model b.vars s

models_forth : (b : Book) (i c : ℕ) (before ms : List HeldModel) (s : List ℕ)
    → read_models b before c s ≡ done ms → Found b i c before ms s
unfolding read_models join all_from
models_forth b i zero before ms [] h = record {
  more = [];
  all = (let e : before ≡ ms = cc in sym e ∙ sym (append-nil before));
  many = refl;
  same = λ y. refl;
  sound = tt;
}
models_forth b i zero before ms (x ∷ s) h = let z : ◌≡◌ {A = ℕ} 0 1 = cc in absurd (omega arith)
models_forth b i (suc c) before ms s h =
    let p = passed_at (length before)
    (leb (model_length b.vars s) (length s) && held_model_sound b (read_model b.vars s))
    bad_model _ ms h in
    one_more b i c before ms s p.test (models_forth b (suc i) c _ ms _ p.result)

-- ---- steps
step_forth : (s : List ℕ) → AllBytes s → step_length ≤ length s
    → step_bytes (read_step s) ++ drop step_length s ≡ s
unfolding step_bytes read_step
step_forth s h l =
    ap (λ r. byte 0 s ∷ byte 1 s ∷ byte 2 s ∷ byte 3 s ∷ r)
    (ap₂ (λ x r. u32_bytes x ++ r) (bits_signed (u32 (drop 4 s)) (u32_below _ later)) (sym (drop-drop 4 4 s))
    ∙ write_u32 (drop 4 s) later (simp length-drop (omega arith)))
    ∙ sym (four s (omega arith))
  where
    later : AllBytes (drop 4 s)
    later = bytes_drop 4 s h

pub steps_forth : (c : ℕ) (s : List ℕ) → AllBytes s → step_length * c ≤ length s
    → join (map step_bytes (read_steps c s)) ++ drop (step_length * c) s ≡ s
unfolding join read_steps
steps_forth zero s h l = refl
steps_forth (suc c) s h l =
    append_assoc (step_bytes (read_step s)) _ (drop (step_length * suc c) s)
    ∙ ap (λ r. step_bytes (read_step s) ++ r)
    (ap (λ r. join (map step_bytes (read_steps c (drop step_length s))) ++ r) (sym (drop_more step_length c s))
    ∙ steps_forth c (drop step_length s) (bytes_drop step_length s h) (simp length-drop (omega arith)))
    ∙ step_forth s h (omega arith)

pub length_read_steps : (c : ℕ) (s : List ℕ) → length (read_steps c s) ≡ c
unfolding read_steps
length_read_steps zero s = refl
length_read_steps (suc c) s = ap suc (length_read_steps c (drop step_length s))

-- ---- the trailer
trailer_forth : (t : List ℕ) → AllBytes t → length t ≡ trailer_length → (m : ℕ) → byte 6 t ≡ 0x4D → byte 7 t ≡ m
    → byte 0 t ∷ byte 1 t ∷ byte 2 t ∷ byte 3 t ∷ (u16_bytes (u16 (drop 4 t)) ++ (0x4D ∷ m ∷ [])) ≡ t
trailer_forth t h l m p q =
    ap (λ r. byte 0 t ∷ byte 1 t ∷ byte 2 t ∷ byte 3 t ∷ r)
    (ap (λ r. u16_bytes (u16 (drop 4 t)) ++ r) mark
    ∙ write_u16 (drop 4 t) (bytes_drop 4 t h) (simp length-drop (omega arith)))
    ∙ sym (four t (omega arith))
  where
    mark : 0x4D ∷ m ∷ [] ≡ drop 2 (drop 4 t)
    mark = ap₂ (λ x y. x ∷ y ∷ []) (sym p) (sym q)
        ∙ ap (λ r. byte 6 t ∷ byte 7 t ∷ r) (sym (drop_of_length-le t {i = 8} (omega arith)))
        ∙ ap (λ r. byte 6 t ∷ r) (sym (drop-cons t 7 0 (omega arith)))
        ∙ sym (drop-cons t 6 0 (omega arith))
        ∙ sym (drop-drop 2 4 t)

-- ---- the sheet
-- a result that goes on has come so far
pub record Came {A B : Type 0} (r : Result A) (f : A → Result B) (v : B) : Type 0 where
  pub value : A
  pub first : r ≡ done value
  pub then : f value ≡ done v

pub came : {A B : Type 0} (r : Result A) (f : A → Result B) (v : B) → (r followed_by f) ≡ done v → Came r f v
unfolding ◌followed_by◌
came (done a) f v h = record { value = a; first = refl; then = h }
came (stopped q i) f v h = let z : ◌≡◌ {A = ℕ} 0 1 = cc in absurd (omega arith)

module _ (s : List ℕ) (h : HeldBook) (e : read s ≡ done h) where
  abbrev t : Trailer
  t = read_trailer (trailer_of s)

  abbrev o : Book
  o = outline t.n t.d t.models t.steps

  abbrev steps : List HeldStep
  steps = read_steps t.steps (drop t.offset s)

  abbrev book : List HeldModel → HeldBook
  book models = record { n = t.n; d = t.d; models = models; steps = steps }

  test₁ : Passed (between shortest longest (length s)) (require_at 0 t.marked bad_mark (read_records s t)) h
  unfolding read
  test₁ = passed_at 0 (between shortest longest (length s)) bad_length _ h e

  test₂ : Passed t.marked (read_records s t) h
  test₂ = passed_at 0 t.marked bad_mark _ h test₁.result

  abbrev rest₅ : List HeldModel → Result HeldBook
  rest₅ models = require_each 0 (held_step_sound o) steps bad_step (done (book models))

  abbrev rest₄ : Result HeldBook
  rest₄ = read_models o [] t.models (take t.offset s) followed_by rest₅

  abbrev whole : Bool
  whole = eqb (t.offset + step_length * t.steps + trailer_length) (length s)

  test₃ : Passed (trailer_sound t) (require_at 0 whole bad_offset rest₄) h
  unfolding read_records
  test₃ = passed_at 0 (trailer_sound t) bad_limits _ h test₂.result

  limits_pass : T (limits_sound o)
  unfolding trailer_sound
  limits_pass = and_left (limits_sound o) _ test₃.test

  mark_passes : T (eqb t.mark (mark_of t.n))
  unfolding trailer_sound
  mark_passes = and_right (limits_sound o) _ test₃.test

  test₄ : Passed whole rest₄ h
  test₄ = passed_at 0 whole bad_offset _ h test₃.result

  test₅ : Came (read_models o [] t.models (take t.offset s)) rest₅ h
  test₅ = came _ rest₅ h test₄.result

  abbrev ms : List HeldModel
  ms = test₅.value

  test₆ : Passed (all_from 0 (held_step_sound o) steps) (done (book ms)) h
  test₆ = passed_each 0 (held_step_sound o) steps bad_step (done (book ms)) h test₅.then

  is_book : book ms ≡ h
  is_book = let r = test₆.result in cc

  found : Found o 0 t.models [] ms (take t.offset s)
  found = models_forth o 0 t.models [] ms (take t.offset s) test₅.first

  same_outline : o ≡ outline_of (book ms)
  unfolding outline_of
  same_outline = ap₂ (outline t.n t.d) (sym (ap length found.all ∙ found.many))
      (sym (length_read_steps t.steps (drop t.offset s)))

  book_passes : HeldPasses (book ms)
  book_passes = record {
    limits = subst (λ b. T (limits_sound b)) same_outline limits_pass;
    models = subst (λ b. T (all_from 0 (λ i. held_model_sound b) ms)) same_outline
        (subst (λ l. T (all_from 0 (λ i. held_model_sound o) l)) (sym found.all) found.sound);
    steps = subst (λ b. T (all_from 0 (held_step_sound b) steps)) same_outline test₆.test;
  }

  -- what is read passes the tests of a held book,
  pub read_passes : HeldPasses h
  read_passes = subst HeldPasses is_book book_passes

  offset_is : t.offset + step_length * t.steps + trailer_length ≡ length s
  offset_is = eqb→eq _ (length s) test₄.test

  trailer_whole : length (trailer_of s) ≡ trailer_length
  unfolding trailer_of shortest
  trailer_whole = simp length-drop (omega (arith, between_low shortest longest (length s) test₁.test))

  -- the trailer stands after the steps
  trailer_at : trailer_of s ≡ drop (step_length * t.steps) (drop t.offset s)
  unfolding trailer_of
  trailer_at = ap (λ i. drop i s) ends ∙ sym (drop-drop (step_length * t.steps) t.offset s)
    where
      ends : length s - trailer_length ≡ t.offset + step_length * t.steps
      ends = omega (arith, offset_is)

  module _ (y : AllBytes s) where
    models_same : models_bytes (book ms) ≡ take t.offset s
    unfolding models_bytes
    models_same = ap (λ l. join (map model_bytes l)) found.all ∙ found.same (bytes_take t.offset s y)

    trailer_same : trailer_bytes (book ms) ≡ trailer_of s
    unfolding trailer_bytes read_trailer
    trailer_same =
        ap₂ (λ m k. t.n ∷ t.d ∷ m ∷ k ∷ (u16_bytes (length (models_bytes (book ms))) ++ (0x4D ∷ mark_of t.n ∷ [])))
        (ap length found.all ∙ found.many) (length_read_steps t.steps (drop t.offset s))
        ∙ ap (λ x. t.n ∷ t.d ∷ t.models ∷ t.steps ∷ (u16_bytes x ++ (0x4D ∷ mark_of t.n ∷ [])))
        (ap length models_same ∙ length-take-le t.offset s (omega (arith, offset_is)))
        ∙ trailer_forth (trailer_of s) (unfold trailer_of in bytes_drop (length s - trailer_length) s y) trailer_whole
        (mark_of t.n) (eqb→eq _ 0x4D (and_left (eqb (byte 6 (trailer_of s)) 0x4D) _ test₂.test))
        (eqb→eq t.mark (mark_of t.n) mark_passes)

    sheet_same : sheet_bytes (book ms) ≡ s
    unfolding sheet_bytes
    sheet_same =
        ap₂ (λ x r. x ++ (join (map step_bytes steps) ++ r)) models_same (trailer_same ∙ trailer_at)
        ∙ ap (λ r. take t.offset s ++ r)
        (steps_forth t.steps (drop t.offset s) (bytes_drop t.offset s y)
        (simp length-drop (omega (arith, offset_is))))
        ∙ take-append-drop t.offset s

  -- and is the book of the sheet
  pub read_sheet : AllBytes s → sheet_bytes h ≡ s
  read_sheet y = subst (λ b. sheet_bytes b ≡ s) is_book (sheet_same y)

-- THEOREM: what is read writes back as the same bytes, in any buffer that has room for them
pub read_writes_back : (s : List ℕ) (h : HeldBook) → AllBytes s → read s ≡ done h
    → (buffer : List ℕ) → length s ≤ length buffer → write h buffer ≡ done s
unfolding write
read_writes_back s h y e buffer l =
    held_tested_passes h _ (read_passes s h e)
    ∙ ap (λ x. require_at 0 (leb (length x) (length buffer)) short_buffer (done x)) (read_sheet s h e y)
    ∙ require_at_passed 0 (leb (length s) (length buffer)) short_buffer (done s) (le→leb (length s) (length buffer) l)
