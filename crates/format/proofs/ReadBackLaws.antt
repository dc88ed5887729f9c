-- What is written is read again.
use Rattle.std.specs.Prelude.{◌≡◌, refl, Bool, true, false, cond, ◌||◌, ℕ, suc, ◌+◌, ◌-◌, ◌*◌, ◌%◌, ◌^◌, ◌<◌, ◌≤◌, eqb, leb, ℤ, nat_abs, take, drop}
use Rattle.std.proofs.Common.{sym, ◌∙◌, subst, le→leb, take_at}
use Rattle.std.proofs.Math.Path.{ap, ap₂}
use mathlib.Core.List.{List, [], ◌∷◌, ◌++◌, map, append_assoc, append-nil}
use native.Mathlib.Omega.{arith}
use Rattle.std.proofs.Math.Nat as NatL
use Rattle.std.proofs.Math.Dec.{T, eqb_refl}
use Rattle.std.proofs.Math.ListN.{length, length-append}
use Rattle.std.proofs.lemmas.List.{length-replicate}
use Rattle.std.proofs.Math.Seq.{drop_at}
use Rattle.numbers.specs.Fixed.{span_limit}
use Rattle.numbers.proofs.FixedLaws.{span_four_bytes}
use Rattle.calculus.specs.Key.{key_width, key_limit, short_key}
use Rattle.calculus_laws.specs.MonomialKeyLaws.{key_word}
use Rattle.calculus.specs.Terms.{every, size}
use Rattle.calculus.specs.Model.{zero_model, between, fits}
use Rattle.calculus.specs.Refusal.{bad_length, bad_mark, bad_limits, bad_offset, bad_model, bad_step, short_buffer}
use Rattle.calculus.specs.Refusal.{done, require_at, require_each, ◌followed_by◌}
use Rattle.calculus.specs.Book.{Book, limits_sound}
use Rattle.calculus_laws.specs.TestLaws.{and_left, and_right, both}
use Rattle.calculus.specs.Refusal.{all_from}
use Rattle.calculus_laws.specs.RefusalLaws.{require_at_passed, require_each_passed, Passed, passed_at}
use Rattle.format.specs.Bytes.{join, u32, u16_bytes, u32_bytes, signed, bits}
use Rattle.format.specs.HeldBook.{HeldTerm, HeldModel, HeldStep, HeldBook, view_held_term}
use Rattle.format.specs.HeldBook.{outline, outline_of}
use Rattle.format.specs.HeldBook.{held_model_sound, held_step_sound, HeldPasses}
use Rattle.format.specs.Format.{head_length, short_keys, key_length, term_length, step_length, trailer_length}
use Rattle.format.specs.Format.{read_key, read_term, read_terms, read_model, model_length, read_models}
use Rattle.format.specs.Format.{read_step, read_steps}
use Rattle.format.specs.Format.{short_mark, long_mark, mark_of, Trailer, trailer_of, read_trailer}
use Rattle.format.specs.Format.{shortest, longest, trailer_sound, read_records, read}
use Rattle.format.specs.Format.{key_bytes, term_bytes, model_bytes, step_bytes, models_bytes}
use Rattle.format.specs.Format.{trailer_bytes, sheet_bytes}
use Rattle.format.specs.Format.{write}
use Rattle.format.specs.BytesLaws.{read_u16, read_u32, signed_bits, bits_below}
use Rattle.format.proofs.KeyBytesLaws.{term_parts, term_most, length_key, key_back, key_rest}
use Rattle.format.specs.HeldBookLaws.{InLimits, in_limits, HeldDone, held_tested_done}
use Rattle.format.proofs.SmallLaws.{ModelFacts, model_facts, TermFacts, term_facts, StepFacts, step_facts}

-- ---- lengths
pub length_term : (n : ℕ) (t : HeldTerm) → length (term_bytes n t) ≡ term_length n
unfolding term_bytes u32_bytes
length_term n t = length-append (key_bytes n t.key) (u32_bytes (bits t.coefficient))
    ∙ ap (λ k. k + 4) (length_key n t.key) ∙ sym (term_parts n)

pub length_terms : (n : ℕ) (ts : List HeldTerm) → length (join (map (term_bytes n) ts)) ≡ term_length n * length ts
unfolding join
length_terms n [] = sym (NatL.mul-zero (term_length n))
length_terms n (t ∷ ts) = omega (
  arith,
  length-append (term_bytes n t) (join (map (term_bytes n) ts)),
  length_term n t,
  length_terms n ts,
  NatL.mul-suc (term_length n) (length ts),
)

pub length_model : (m : HeldModel) → length (model_bytes m) ≡ head_length + term_length m.n * length m.terms
unfolding model_bytes u32_bytes
length_model m = omega (arith, length_terms m.n m.terms)

pub length_steps : (l : List HeldStep) → length (join (map step_bytes l)) ≡ step_length * length l
unfolding join step_bytes u32_bytes
length_steps [] = refl
length_steps (s ∷ l) = omega (arith, length_steps l)

pub length_trailer : (h : HeldBook) → length (trailer_bytes h) ≡ trailer_length
unfolding trailer_bytes u16_bytes
length_trailer h = refl

-- ---- the mark is one of the two
pub mark_known : (n : ℕ) → (eqb (mark_of n) short_mark || eqb (mark_of n) long_mark) ≡ true
unfolding mark_of
mark_known n = go (short_keys n)
  where
    go : (b : Bool) → let m : ℕ = cond b short_mark long_mark in (eqb m short_mark || eqb m long_mark) ≡ true
    go true = refl
    go false = refl

-- ---- terms
term_is : (t : HeldTerm) (k : ℕ) (z : ℤ) → k ≡ t.key → z ≡ t.coefficient → record { key = k; coefficient = z } ≡ t
term_is t k z p q = rw (p, q)

term_back : (n : ℕ) (t : HeldTerm) (r : List ℕ) → t.key < key_limit → (T (short_keys n) → t.key % short_key ≡ 0)
    → nat_abs t.coefficient ≤ span_limit → read_term n (term_bytes n t ++ r) ≡ t
unfolding read_term term_bytes
term_back n t r h z k = term_is t _ _ (ap (read_key n) assoc ∙ key_back n t.key _ (key_word t.key h) z)
    (ap (λ s. signed (u32 (drop (key_length n) s))) assoc
    ∙ ap (λ s. signed (u32 s)) (key_rest n t.key (u32_bytes (bits t.coefficient) ++ r))
    ∙ ap signed (read_u32 (bits t.coefficient) r (bits_below _ small)) ∙ signed_bits _ small)
  where
    assoc : key_bytes n t.key ++ u32_bytes (bits t.coefficient) ++ r
        ≡ key_bytes n t.key ++ (u32_bytes (bits t.coefficient) ++ r)
    assoc = append_assoc (key_bytes n t.key) _ r

    small : nat_abs t.coefficient < 2 ^ 31
    small = omega (arith, span_four_bytes)

terms_back : (n d : ℕ) (ts : List HeldTerm) (r : List ℕ) → n ≤ key_width → d ≤ 15
    → T (every (λ k c. fits n d k) (map (view_held_term n) ts)) → size (map (view_held_term n) ts) ≤ span_limit
    → read_terms n (length ts) (join (map (term_bytes n) ts) ++ r) ≡ ts
unfolding read_terms join
terms_back n d [] r ln ld h z = refl
terms_back n d (t ∷ ts) r ln ld h z = ap₂ ◌∷◌
    (ap (read_term n) assoc ∙ term_back n t (later ++ r) f.key f.short (omega (arith, f.coefficient)))
    (ap (λ s. read_terms n (length ts) (drop (term_length n) s)) assoc
    ∙ ap (read_terms n (length ts)) (drop_at (term_bytes n t) (later ++ r) (term_length n) (length_term n t))
    ∙ terms_back n d ts r ln ld f.fitting_rest (omega (arith, f.size_rest)))
  where
    later : List ℕ
    later = join (map (term_bytes n) ts)

    assoc : term_bytes n t ++ later ++ r ≡ term_bytes n t ++ (later ++ r)
    assoc = append_assoc (term_bytes n t) later r

    f : TermFacts n d t ts
    f = term_facts n d t ts ln ld h

-- ---- models
model_is : (m : HeldModel) (n e : ℕ) (ts : List HeldTerm) → n ≡ m.n → e ≡ m.radius → ts ≡ m.terms
    → record { n = n; radius = e; terms = ts } ≡ m
model_is m n e ts p q r = rw (p, q, r)

-- the count stands after the radius
pub model_length_back : (n : ℕ) (m : HeldModel) (r : List ℕ) → m.n ≡ n
    → model_length n (model_bytes m ++ r) ≡ length (model_bytes m)
unfolding model_length model_bytes u32_bytes
model_length_back n m r e = omega (
  arith,
  length_terms m.n m.terms,
  ap (λ i. term_length i * length m.terms) e,
)

model_fits : (n : ℕ) (m : HeldModel) (r : List ℕ) → m.n ≡ n
    → T (leb (model_length n (model_bytes m ++ r)) (length (model_bytes m ++ r)))
model_fits n m r e = le→leb (model_length n (model_bytes m ++ r)) (length (model_bytes m ++ r))
    (omega (arith, model_length_back n m r e, length-append (model_bytes m) r))

pub model_rest : (n : ℕ) (m : HeldModel) (r : List ℕ) → m.n ≡ n
    → drop (model_length n (model_bytes m ++ r)) (model_bytes m ++ r) ≡ r
model_rest n m r e = drop_at (model_bytes m) r _ (sym (model_length_back n m r e))

model_back : (b : Book) (m : HeldModel) (r : List ℕ) → b.vars ≤ key_width → b.order ≤ 15 → T (held_model_sound b m)
    → read_model b.vars (model_bytes m ++ r) ≡ m
unfolding read_model model_bytes
model_back b m r ln ld h = model_is m _ _ _ (sym f.same_n)
    (ap u32 (append_assoc (u32_bytes m.radius) _ r)
    ∙ read_u32 m.radius _ (omega (arith, f.small_span, span_four_bytes)))
    (unfold u32_bytes in
    (ap (λ i. read_terms b.vars (length m.terms) (join (map (term_bytes i) m.terms) ++ r)) f.same_n
    ∙ terms_back b.vars b.order m.terms r ln ld f.fitting (omega (arith, f.small_span))))
  where
    f : ModelFacts b.vars b.order m
    f = model_facts b m h

pub models_back : (b : Book) (i : ℕ) (before ms : List HeldModel) → b.vars ≤ key_width → b.order ≤ 15
    → T (all_from i (λ i. held_model_sound b) ms)
    → read_models b before (length ms) (join (map model_bytes ms)) ≡ done (before ++ ms)
unfolding read_models join all_from
models_back b i before [] ln ld h = ap done (sym (append-nil before))
models_back b i before (m ∷ ms) ln ld h =
    require_at_passed (length before) _ bad_model _
    (both (leb (model_length b.vars s) (length s)) _ (model_fits b.vars m later same)
    (subst (λ x. T (held_model_sound b x)) (sym back) (and_left (held_model_sound b m) _ h)))
    ∙ ap₂ (λ x l. read_models b (before ++ (x ∷ [])) (length ms) l) back (model_rest b.vars m later same)
    ∙ models_back b (suc i) (before ++ (m ∷ [])) ms ln ld (and_right (held_model_sound b m) _ h)
    ∙ ap done (append_assoc before (m ∷ []) ms)
  where
    later : List ℕ
    later = join (map model_bytes ms)

    s : List ℕ
    s = model_bytes m ++ later

    same : m.n ≡ b.vars
    same = (model_facts b m (and_left (held_model_sound b m) _ h)).same_n

    back : read_model b.vars s ≡ m
    back = model_back b m later ln ld (and_left (held_model_sound b m) _ h)

-- ---- steps
step_is : (s : HeldStep) (z : ℤ) → z ≡ s.value
    → record { code = s.code; a = s.a; b = s.b; v = s.v; value = z } ≡ s
step_is s z p = rw p

step_back : (s : HeldStep) (r : List ℕ) → nat_abs s.value < 2 ^ 31 → read_step (step_bytes s ++ r) ≡ s
unfolding read_step step_bytes
step_back s r h = step_is s _
    (ap signed (read_u32 (bits s.value) r (bits_below s.value h)) ∙ signed_bits s.value h)

pub length_step : (s : HeldStep) → length (step_bytes s) ≡ step_length
unfolding step_bytes u32_bytes
length_step s = refl

pub steps_back : (b : Book) (i : ℕ) (l : List HeldStep) (r : List ℕ) → length b.models ≤ 16 → b.vars ≤ key_width
    → i + length l ≤ 64 → T (all_from i (held_step_sound b) l)
    → read_steps (length l) (join (map step_bytes l) ++ r) ≡ l
unfolding read_steps join all_from
steps_back b i [] r lm ln li h = refl
steps_back b i (s ∷ l) r lm ln li h = ap₂ ◌∷◌
    (ap read_step assoc ∙ step_back s (later ++ r) f.value)
    (ap (λ x. read_steps (length l) (drop step_length x)) assoc
    ∙ ap (read_steps (length l)) (drop_at (step_bytes s) (later ++ r) step_length (length_step s))
    ∙ steps_back b (suc i) l r lm ln (omega arith) (and_right (held_step_sound b i s) _ h))
  where
    later : List ℕ
    later = join (map step_bytes l)

    assoc : step_bytes s ++ later ++ r ≡ step_bytes s ++ (later ++ r)
    assoc = append_assoc (step_bytes s) later r

    f : StepFacts s
    f = step_facts b i s (omega arith) lm ln (and_left (held_step_sound b i s) _ h)

-- ---- the sheet
module _ (h : HeldBook) (p : HeldPasses h) where
  abbrev o : Book
  o = outline_of h

  pub limits : InLimits h.n h.d (length h.models) (length h.steps)
  unfolding outline_of
  limits = in_limits h.n h.d (length h.models) (length h.steps) p.limits

  pub outline_small : (length o.models ≤ 16) × (o.vars ≤ key_width)
  unfolding outline_of outline
  outline_small = (rw (length-replicate (length h.models) (zero_model h.n)) limits.models, limits.n_high)

  abbrev P : List ℕ
  P = models_bytes h

  abbrev Q : List ℕ
  Q = join (map step_bytes h.steps)

  abbrev R : List ℕ
  R = trailer_bytes h

  models_bounded : (b : Book) (i : ℕ) (ms : List HeldModel) → T (all_from i (λ i. held_model_sound b) ms)
      → length (join (map model_bytes ms)) ≤ 517 * length ms
  unfolding join all_from
  models_bounded b i [] t = omega arith
  models_bounded b i (m ∷ ms) t = omega (
    arith,
    models_bounded b (suc i) ms (and_right (held_model_sound b m) _ t),
    (model_facts b m (and_left (held_model_sound b m) _ t)).count,
    length_model m,
    NatL.mul-le-mul_right (length m.terms) (term_most m.n),
    length-append (model_bytes m) (join (map model_bytes ms)),
  )

  pub sheet_length : length (sheet_bytes h) ≡ length P + step_length * length h.steps + trailer_length
  unfolding sheet_bytes
  sheet_length = omega (
    arith,
    length-append P (Q ++ R),
    length-append Q R,
    length_trailer h,
    length_steps h.steps,
  )

  pub models_short : length P ≤ 8272
  unfolding models_bytes
  models_short = omega (arith, limits.models, models_bounded o 0 h.models p.models)

  -- the limits make the numbers of test 1
  pub sheet_longest : length (sheet_bytes h) ≤ longest
  unfolding longest
  sheet_longest = omega (arith, sheet_length, models_short, limits.steps_high)

  pub sheet_shortest : shortest ≤ length (sheet_bytes h)
  unfolding shortest
  sheet_shortest = omega (arith, sheet_length, limits.steps_low)

  pub trailer_back : trailer_of (sheet_bytes h) ≡ R
  unfolding trailer_of sheet_bytes
  trailer_back = ap (drop (length (sheet_bytes h) - trailer_length)) (sym (append_assoc P Q R))
      ∙ drop_at (P ++ Q) R _ ends
    where
      ends : length (P ++ Q) ≡ length (sheet_bytes h) - trailer_length
      ends = omega (arith, length-append P Q, length_steps h.steps, sheet_length)

  -- what the trailer says
  unfoldable pub said : Trailer
  said = record {
    n = h.n;
    d = h.d;
    models = length h.models;
    steps = length h.steps;
    offset = length P;
    marked = true;
    mark = mark_of h.n;
  }

  trailer_said : read_trailer R ≡ said
  unfolding read_trailer trailer_bytes u16_bytes said
  trailer_said = ap₂ {C = Trailer} (λ b x. record {
    n = h.n;
    d = h.d;
    models = length h.models;
    steps = length h.steps;
    offset = x;
    marked = b;
    mark = mark_of h.n;
  }) (mark_known h.n) (read_u16 (length P) (0x4D ∷ mark_of h.n ∷ []) (omega (arith, models_short)))

  pub sheet_trailer : read_trailer (trailer_of (sheet_bytes h)) ≡ said
  sheet_trailer = ap read_trailer trailer_back ∙ trailer_said

  models-again : read_models o [] (length h.models) (take (length P) (sheet_bytes h)) ≡ done h.models
  unfolding sheet_bytes models_bytes outline_of outline
  models-again = ap (read_models o [] (length h.models)) (take_at P (Q ++ R) (length P) refl)
      ∙ models_back o 0 [] h.models limits.n_high limits.d_high p.models

  steps-again : read_steps (length h.steps) (drop (length P) (sheet_bytes h)) ≡ h.steps
  unfolding sheet_bytes outline_of outline
  steps-again = ap (read_steps (length h.steps)) (drop_at P (Q ++ R) (length P) refl)
      ∙ steps_back o 0 h.steps R outline_small.0 outline_small.1
      (omega (arith, limits.steps_high)) p.steps

  said_sound : T (trailer_sound said)
  unfolding trailer_sound said outline_of
  said_sound = both (limits_sound o) _ p.limits (eqb_refl (mark_of h.n))

  records_back : read_records (sheet_bytes h) said ≡ done h
  unfolding read_records said outline_of ◌followed_by◌
  records_back = require_at_passed 0 (trailer_sound said) bad_limits _ said_sound
      ∙ require_at_passed 0
      (eqb (length P + step_length * length h.steps + trailer_length) (length (sheet_bytes h))) bad_offset _
      (subst (λ x. T (eqb x (length (sheet_bytes h)))) sheet_length (eqb_refl (length (sheet_bytes h))))
      ∙ ap₂ (λ r steps. r followed_by (λ models. require_each 0 (held_step_sound o) steps bad_step
      (done (record { n = h.n; d = h.d; models = models; steps = steps })))) models-again steps-again
      ∙ require_each_passed 0 (held_step_sound o) h.steps bad_step (done h) p.steps

  between_both : T (between shortest longest (length (sheet_bytes h)))
  unfolding between
  between_both = both (leb shortest (length (sheet_bytes h))) _
      (le→leb shortest (length (sheet_bytes h)) sheet_shortest) (le→leb (length (sheet_bytes h)) longest sheet_longest)

  pub read_back : read (sheet_bytes h) ≡ done h
  unfolding read said
  read_back = require_at_passed 0 (between shortest longest (length (sheet_bytes h))) bad_length _ between_both
      ∙ ap (λ t. require_at 0 t.marked bad_mark (read_records (sheet_bytes h) t)) sheet_trailer
      ∙ require_at_passed 0 said.marked bad_mark _ tt
      ∙ records_back

-- what is written passes the tests, and is the sheet of the book
pub record IsWritten (h : HeldBook) (s : List ℕ) : Type 0 where
  pub passes : HeldPasses h
  pub is_sheet : sheet_bytes h ≡ s

pub is_written : (h : HeldBook) (buffer s : List ℕ) → write h buffer ≡ done s → IsWritten h s
unfolding write
is_written h buffer s e = record { passes = d.passes; is_sheet = let r = q.result in cc }
  where
    d : HeldDone h (require_at 0 (leb (length (sheet_bytes h)) (length buffer)) short_buffer (done (sheet_bytes h))) s
    d = held_tested_done h _ s e

    q : Passed (leb (length (sheet_bytes h)) (length buffer)) (done (sheet_bytes h)) s
    q = passed_at 0 (leb (length (sheet_bytes h)) (length buffer)) short_buffer _ s d.result

-- THEOREM: what is written reads back as the same book
pub written_reads_back : (h : HeldBook) (buffer s : List ℕ) → write h buffer ≡ done s → read s ≡ done h
written_reads_back h buffer s e =
    rw (← (is_written h buffer s e).is_sheet) (read_back h (is_written h buffer s e).passes)

-- its length lies between those that test 1 allows
pub written_length : (h : HeldBook) (buffer s : List ℕ) → write h buffer ≡ done s
    → (shortest ≤ length s) × (length s ≤ longest)
written_length h buffer s e = (
  subst (λ x. shortest ≤ length x) w.is_sheet (sheet_shortest h w.passes),
  subst (λ x. length x ≤ longest) w.is_sheet (sheet_longest h w.passes),
)
  where
    w : IsWritten h s
    w = is_written h buffer s e
