-- The run of a book that passed the tests: one iteration of its loop, with each way out, and its end.
use Rattle.std.proofs.Math.Path.{◌≡◌, sym, ap, ap₂}
use Rattle.std.specs.Prelude.{refl, Bool, ◌&&◌, ◌||◌, ltb, nat_abs, drop, set, replicate}
use Rattle.std.proofs.Common.{◌∙◌, subst, mul-le-mul, add-one, le→leb, drop_of_length-le, drop-cons, ext_get_or}
use Rattle.std.proofs.Math.Bool.{true, false, cond}
use mathlib.Core.List.{List, [], ◌∷◌, ◌++◌, map, append_assoc, append-nil}
use Rattle.std.proofs.Math.Option.{some}
use Prim.Native.Nat.{ℕ, zero, suc, ◌+◌, ◌*◌, ◌-◌, ◌<◌, ◌≤◌}
use Rattle.std.proofs.Math.Decide.{ℕ_discrete}
use native.Mathlib.Omega.{arith}
use Rattle.std.proofs.Math.Dec.{T, eqb, leb, ltb→lt, leb→le, eqb→eq, eqb_refl}
use Rattle.std.specs.Int.Signed.{non_neg}
use Rattle.std.proofs.Math.ListN.{length, get_or, length-map, length-replicate, get_or-map, get_or-append, length-append}
use Rattle.std.proofs.lemmas.List.{get_or-replicate, get_or_at}
use Rattle.numbers.specs.Fixed.{span_limit}
use Rattle.calculus.specs.Model as C
use Rattle.calculus.specs.Model.{most_degree, most_terms, zero_model, sound}
use Rattle.calculus.specs.Refusal as R
use Rattle.calculus.specs.Refusal.{accepted, refused, done, stopped, at_place, ◌followed_by◌}
use Rattle.calculus.specs.Operations.{multiply, quotient}
use Rattle.calculus.specs.Tests.{vars_sound, variable_sound}
use Rattle.calculus_laws.specs.FilledLaws.{filled_after}
use Rattle.calculus_laws.specs.TestLaws.{and_right}
use Rattle.calculus.specs.Refusal.{all_from}
use Rattle.calculus_laws.specs.SoundLaws.{Sound, zero_sound}
use Rattle.calculus_laws.specs.EachLaws.{All, nil, each_snoc, each_at, each_last}
use Rattle.calculus.specs.Book.{Step, input, last_code, Book, most_models, most_steps, model_sound, step_sound}
use Rattle.calculus.specs.Book.{model_of, result_of, run_step, run_steps, last}
use Rattle.calculus_laws.specs.RefusalLaws.{weaken}
use Rattle.calculus.specs.Shares as S
use Rattle.calculus.specs.Shares.{no_shares, shares_of, all_carried, product_shares, step_shares, rows_of, run_shares}
use Rattle.calculus.specs.Shares.{all_rows, rows_sound}
use Rattle.calculus_laws.specs.BookLaws.{Passes, model_passes, all_from_at, next_number}
use Rattle.calculus_laws.specs.BookSoundLaws.{step_good}
use Rattle.model_types.specs.ArrayLaws.{length_padded}
use Rattle.model_types.specs.declared.Model.{Model}
use Rattle.model_types.specs.declared.Term.{Term}
use Rattle.model_types.specs.declared.Refusal.{Refusal}
use Rattle.model_types.specs.ModelStruct.{Verdict}
use Rattle.std.specs.Prelude.{Ok, Err}
use Rattle.model_types.specs.declared.Refused.{Refused}
use Rattle.model_types.specs.ModelStruct.{refused_at}
use Rattle.model_types.specs.declared.Answer.{Answer}
use Rattle.model_types.specs.declared.Shares.{Shares}
use Rattle.model_types.specs.declared.Accounted.{Accounted}
use Rattle.model_types.specs.ModelStruct.{zero_term, listed, pack_term, view, pack, refusal, cause, answer}
use Rattle.model_types.specs.SharesStruct.{stored_shares, accounted}
use Rattle.model_types.specs.ResultLaws.{sound_in}
use Rattle.model_types.specs.ModelStructLaws.{cause_refusal, vars_within, listed_pack}
use Rattle.model_slices.specs.HandedModels.{handed}
use Rattle.sheet_steps.specs.model.OperationContracts.{Factors, Proposal}
use Rattle.sheet_steps.specs.model.OperationLaws.{sound_order, Holds, held_vars, held_view, held_sound, Got, got}
use Rattle.format.proofs.SmallLaws.{under_cond}
use Rattle.format.specs.HeldBook.{HeldStep, HeldBook, view_model, view_step, view_book, outline, outline_of}
use Rattle.format.specs.HeldBook.{held_step_sound, HeldPasses}
use Rattle.format.specs.HeldBookLaws.{InLimits, in_limits, steps_pass, view_at, view_passes}
use Rattle.format.specs.Fields.{limit_a, limit_b, names_variable, v_sound, earlier, value_sound}
use Rattle.format.proofs.StepFieldLaws.{Fields, fields_of}
use Rattle.sheet_results.specs.Results.{Results, Roomy, held_result, row_at, with_result, with_row, first_rows}
use Rattle.sheet_results.specs.Results.{settled_results, settled_rows}
use Rattle.sheet_results.specs.ResultsLaws.{result_here, result_other, roomy_still}
use Rattle.sheet_results.specs.ResultsLaws.{settled_put, settled_row, settled_kept, settled_row_kept}
use Rattle.sheet_results.specs.RowsLaws.{length_row, row_here, row_other, length_rows, rows_at}
use Rattle.sheet_steps.specs.Steps.{input_code, negate_code, multiply_code, quotient_code}
use Rattle.sheet_steps.specs.Steps.{step_answer, step_row, names_second, StepReady}
use Rattle.sheet_steps.proofs.StepLaws.{radius_small, radius_bounded, only_named, row_named, step_is, row_is}
use Rattle.sheet_steps.proofs.StepLaws.{input_is, input_row, product_is, product_row, quotient_is, quotient_row}
use Rattle.sheet_step_answers.specs.Answers.{accepted_answer}
use Rattle.sheet_run_laws.specs.LastResult.{last_result}
use Rattle.sheet_run_laws.specs.Run.{Loaded, RowsStored, Good, Running, Ended, StepAtIndex, Iterated}

-- ---- any list
-- the last of a list stands at its last place
last_at : {A : Type 0} (x y : A) (l : List A) → last y l ≡ get_or (y ∷ l) (length l) x
unfolding last
last_at x y [] = refl
last_at x y (z ∷ l) = last_at x z l

-- each test of a list, numbered from 0
passes_at : {A : Type 0} (ok : ℕ → A → Bool) (l : List A) (d : A) → T (all_from 0 ok l)
    → (j : ℕ) → j < length l → T (ok j (get_or l j d))
passes_at ok l d t j k =
    let e : 0 + j ≡ j = omega arith in
    subst (λ i. T (ok i (get_or l j d))) e (all_from_at 0 ok l d t j k)

-- a test of two that is chosen
taken_test : (t x y : Bool) → T t → T (cond t x y) → T x
taken_test true x y p q = q
taken_test false x y p q = absurd p

-- a limit of two that is chosen
first_limit : (t u : Bool) (x y z a : ℕ) → (T t → ⊥) → T u → a < cond t x (cond u y z) → a < y
first_limit true u x y z a p q h = absurd (p tt)
first_limit false true x y z a p q h = h
first_limit false false x y z a p q h = absurd q

-- the other one of two limits
second_limit : (t : Bool) (x y a : ℕ) → (T t → ⊥) → a < cond t x y → a < y
second_limit true x y a p h = absurd (p tt)
second_limit false x y a p h = h

-- a list that one was added to, at the places that were there and at the last
getD_before : {A : Type 0} (l : List A) (y x : A) (j : ℕ) → j < length l → get_or (l ++ (y ∷ [])) j x ≡ get_or l j x
getD_before l y x j h = get_or-append l (y ∷ []) x j h

getD_last : {A : Type 0} (l : List A) (y x : A) (j : ℕ) → length l ≡ j → get_or (l ++ (y ∷ [])) j x ≡ y
getD_last l y x j e = get_or_at l y [] x j e

-- ---- rows
-- all of them, as they are stored
pub rows_are : (rows : List S.Shares) {flat : List ℕ} → length rows ≤ most_steps → RowsStored rows flat
    → first_rows flat most_steps ≡ map stored_shares (all_rows rows)
unfolding all_rows most_steps
rows_are rows {flat} h r = ext_get_or (stored_shares no_shares) (first_rows flat 64)
    (map stored_shares (rows ++ replicate (64 - length rows) no_shares))
    (length_rows flat 64 ∙ sym whole)
    (λ j l.
    let k : j < 64 = omega (arith, l, length_rows flat 64) in
    rows_at flat 64 j (stored_shares no_shares) k
    ∙ r.each j k
    ∙ ap stored_shares (sym (filled_after no_shares rows (64 - length rows) j))
    ∙ sym (get_or-map stored_shares (rows ++ replicate (64 - length rows) no_shares) j no_shares))
  where
    whole : length (map stored_shares (rows ++ replicate (64 - length rows) no_shares)) ≡ 64
    whole =
        let p = length-map (rows ++ replicate (64 - length rows) no_shares) stored_shares in
        let q = length-append rows (replicate (64 - length rows) no_shares) in
        let s = length-replicate (64 - length rows) no_shares in
        omega (arith, p, q, s, h)

-- no row yet
pub no_rows : RowsStored [] (replicate 256 0)
unfolding row_at stored_shares no_shares most_steps
no_rows = record {
  room = refl;
  each = λ j h. λ t. record {
    carried = get_or-replicate 256 (4 * j) 0 0 (omega (arith, h)) t;
    rounding = get_or-replicate 256 (4 * j + 1) 0 0 (omega (arith, h)) t;
    swept = get_or-replicate 256 (4 * j + 2) 0 0 (omega (arith, h)) t;
    slack = get_or-replicate 256 (4 * j + 3) 0 0 (omega (arith, h)) t;
  };
}

-- one more
row_more : {rows : List S.Shares} {flat : List ℕ} {i : ℕ} (k : S.Shares) {s : Shares} → RowsStored rows flat
    → length rows ≡ i → i < most_steps → s ≡ stored_shares k → RowsStored (rows ++ (k ∷ [])) (with_row s i flat)
unfolding most_steps
row_more {rows} {flat} {i} k {s} r e l q = record {
  room = length_row s i flat ∙ r.room;
  each = λ j h. elim (ℕ_discrete j i) [
    | yes o ↦ ap (row_at (with_row s i flat)) o ∙ row_here s i flat (omega (arith, r.room)) ∙ q
        ∙ ap stored_shares (sym (getD_last rows k no_shares j (e ∙ sym o)))
    | no o ↦ row_other s i flat j o ∙ r.each j h ∙ ap stored_shares (elsewhere j o)
  ];
}
  where
    elsewhere : (j : ℕ) → (j ≡ i → ⊥) → get_or rows j no_shares ≡ get_or (rows ++ (k ∷ [])) j no_shares
    elsewhere j o = go rows i j e o
      where
        go : (l : List S.Shares) (i j : ℕ) → length l ≡ i → (j ≡ i → ⊥)
            → get_or l j no_shares ≡ get_or (l ++ (k ∷ [])) j no_shares
        go [] i zero e o = absurd (o e)
        go [] i (suc j) e o = refl
        go (y ∷ l) i zero e o = refl
        go (y ∷ l) i (suc j) e o = go l (length l) j refl (λ p. o (omega (arith, p, e)))

-- ---- structs of sound models
-- all places of a packed model
packed_long : {n d : ℕ} {k : C.Model} → Sound n d k → length (listed (pack k)) ≡ most_terms
unfolding most_terms
packed_long {k = k} s = ap length (listed_pack k)
    ∙ length_padded zero_term 64 (map pack_term k.terms)
    (omega (arith, length-map k.terms pack_term, s.1.count))

packed_few : {n d : ℕ} {k : C.Model} → Sound n d k → (pack k).count ≤ most_terms
unfolding pack
packed_few s = s.1.count

-- ---- a held book that passes its tests
module _ {h : HeldBook} (p : HeldPasses h) where
  -- the book that it stands for
  abbrev book : Book
  book = view_book h

  passes : Passes book
  passes = view_passes h p

  pub in_limits_of : InLimits h.n h.d (length h.models) (length h.steps)
  unfolding outline_of
  in_limits_of = in_limits h.n h.d (length h.models) (length h.steps) p.limits

  order : h.d ≤ most_degree
  unfolding most_degree
  order = in_limits_of.d_high

  pub steps_few : length h.steps ≤ most_steps
  unfolding most_steps
  steps_few = in_limits_of.steps_high

  pub models_few : length h.models ≤ most_models
  unfolding most_models
  models_few = in_limits_of.models

  vars : vars_sound h.n ≡ true
  vars = vars_within h.n in_limits_of.n_low in_limits_of.n_high

  -- no step is done
  pub running_first : {m : Results} {flat : List ℕ} → Roomy (most_models + length h.steps) m → Loaded h m
      → RowsStored [] flat → Running h 0 m flat
  unfolding rows_sound
  running_first r k s = record {
    models = [];
    count = refl;
    good = nil;
    room = r;
    loaded = k;
    stored = λ j l. absurd (omega (arith, l));
    rest = refl;
    rows = [];
    rows_count = refl;
    rows_stored = s;
    rows_rest = refl;
  }

  counted : length book.steps ≡ length h.steps
  unfolding view_book
  counted = (steps_pass (outline_of h) 0 h.steps p.steps).count

  -- ---- the step at hand
  module _ {i : ℕ} {s : HeldStep} (at : StepAtIndex h i s) where
    -- in the book that it stands for
    abbrev step_at : Step
    step_at = get_or book.steps i (input 0)

    stands : view_step s ≡ some step_at
    unfolding view_book
    stands = ap view_step (sym at.is_step)
        ∙ view_at (outline_of h) 0 h.steps s (input 0) p.steps i at.within

    next : drop i book.steps ≡ step_at ∷ drop (i + 1) book.steps
    next = drop-cons book.steps i (input 0) (omega (arith, counted, at.within))
        ∙ ap (λ j. step_at ∷ drop j book.steps) (sym (add-one i))

    step_passes : T (step_sound book i step_at)
    step_passes = passes_at (step_sound book) book.steps (input 0) passes.steps i
        (omega (arith, counted, at.within))

    fields : Fields (outline_of h) i s
    fields = fields_of (outline_of h) i s (subst (λ s. T (held_step_sound (outline_of h) i s)) at.is_step
        (passes_at (held_step_sound (outline_of h)) h.steps s p.steps i at.within))

    models_counted : length (outline_of h).models ≡ length h.models
    unfolding outline_of outline
    models_counted = length-replicate (length h.models) (zero_model h.n)

    -- its fields are places of the results, that of an input apart
    pub first_place : (s.code ≡ input_code → ⊥) → s.a < length h.steps
    unfolding limit_a
    first_place z =
        let k = second_limit (eqb s.code 0) _ (cond (leb negate_code s.code) i 1) s.a
        (λ t. z (eqb→eq s.code input_code t))
        (ltb→lt s.a _ fields.in_a) in
        omega (
          arith,
          k,
          under_cond (leb negate_code s.code) i 1 (length h.steps) (omega (arith, at.within))
              (omega (arith, at.within)),
        )

    pub second_place : s.b < length h.steps
    unfolding limit_b
    second_place = omega (
      arith,
      ltb→lt s.b _ fields.in_b,
      under_cond ((leb 4 s.code && leb s.code 7) || eqb s.code 9) i 1 (length h.steps)
          (omega (arith, at.within)) (omega (arith, at.within)),
    )

    -- so are the two others of a quotient
    pub third_earlier : s.code ≡ quotient_code → s.v < i
    unfolding names_variable v_sound
    third_earlier e = ltb→lt s.v i (subst (λ c. T (v_sound (outline_of h).vars i c s.v)) e fields.in_v)

    pub fourth_earlier : s.code ≡ quotient_code → nat_abs s.value < i
    unfolding value_sound earlier
    fourth_earlier e = ltb→lt (nat_abs s.value) i
        (and_right (non_neg s.value) _ (subst (λ c. T (value_sound i c s.value)) e fields.in_value))

    -- and what a and b name are results of earlier steps
    pub first_earlier : T (leb negate_code s.code) → s.a < i
    unfolding limit_a
    first_earlier t = first_limit (eqb s.code 0) (leb negate_code s.code) _ i 1 s.a
        (λ z. omega (arith, eqb→eq s.code 0 z, leb→le 3 s.code t)) t (ltb→lt s.a _ fields.in_a)

    pub second_earlier : T (names_second s.code) → s.b < i
    unfolding limit_b names_second
    second_earlier t = chosen (leb 4 s.code && leb s.code 7) (eqb s.code 9) t (ltb→lt s.b _ fields.in_b)
      where
        chosen : (x y : Bool) → T x → s.b < cond (x || y) i 1 → s.b < i
        chosen true y q l = l
        chosen false y q l = absurd q

    -- of a code that is known
    by_first : (c : ℕ) → s.code ≡ c → T (leb negate_code c) → s.a < i
    by_first c e t = first_earlier (subst (λ c. T (leb negate_code c)) (sym e) t)

    by_second : (c : ℕ) → s.code ≡ c → T (names_second c) → s.b < i
    by_second c e t = second_earlier (subst (λ c. T (names_second c)) (sym e) t)

    divisor_earlier : s.code ≡ quotient_code → s.b < i
    unfolding limit_b
    divisor_earlier e = ltb→lt s.b i (subst (λ c. T (ltb s.b (limit_b i c))) e fields.in_b)

    pub here_small : i < most_steps
    unfolding most_steps
    here_small = omega (arith, at.within, in_limits_of.steps_high)

    -- that of an input is a model
    pub model_place : s.code ≡ input_code → s.a < length h.models
    unfolding limit_a
    model_place e = omega (
      arith,
      models_counted,
      ltb→lt s.a (length (outline_of h).models)
          (subst (λ c. T (ltb s.a (limit_a (length (outline_of h).models) i c))) e fields.in_a),
    )

    -- ---- after the results so far
    module _ {m : Results} {flat : List ℕ} (l : Running h i m flat) where
      -- a result as the book's steps see it
      abbrev so_far : ℕ → C.Model
      so_far = result_of book l.models

      so_far_good : (a : ℕ) → Good h (so_far a)
      unfolding result_of view_book
      so_far_good a = each_at (λ m k. Good h k) (zero_model h.n) (zero_model h.n) (zero_sound h.n h.d)
          l.good a

      -- and as the slices hold it
      seen : (a : ℕ) → a < i → view (held_result h.n m (most_models + a)) ≡ so_far a
      unfolding result_of view_book
      seen a s = l.stored a s

      -- the answer of the book's step
      abbrev pub given : R.Answer C.Model
      given = run_step book so_far step_at

      -- and its shares
      abbrev pub row : C.Model → S.Shares
      row = step_shares book so_far step_at

      -- ---- a struct that is seen as a sound model
      module _ (k : Model) {x : C.Model} (e : view k ≡ x) (o : Good h x) where
        seen_sound : T (sound h.d (view k))
        seen_sound = sound_in h.n h.d (view k) vars (subst (Good h) (sym e) o)

        seen_vars : k.n ≡ h.n
        unfolding view
        seen_vars = ap (λ m. m.vars) e ∙ o.0.vars

      -- ---- a step that names at most two results
      -- one that is named, or the zero model
      operand_good : (t : Bool) (k : Model) (a : ℕ)
          → view k ≡ cond t (view (held_result h.n m (most_models + a))) (zero_model h.n) → (T t → a < i) → Good h
          (view k)
      operand_good true k a e q = subst (Good h) (sym (e ∙ seen a (q tt))) (so_far_good a)
      operand_good false k a e q = subst (Good h) (sym e) (zero_sound h.n h.d)

      operand_is : (t : Bool) (k : Model) (a : ℕ)
          → view k ≡ cond t (view (held_result h.n m (most_models + a))) (zero_model h.n) → (T t → a < i) → T t
          → view k ≡ so_far a
      operand_is true k a e q u = e ∙ seen a (q tt)
      operand_is false k a e q u = absurd u

      in_variable : T (names_variable s.code) → T (variable_sound h.n s.v)
      unfolding outline_of outline v_sound
      in_variable t = taken_test (names_variable s.code) _ _ t fields.in_v

      code_small : s.code ≤ last_code
      code_small = leb→le s.code last_code fields.in_code

      module _ (f g : Model)
          (is_first : view f ≡ cond (leb negate_code s.code) (view (held_result h.n m (most_models + s.a)))
          (zero_model h.n))
          (is_second : view g ≡ cond (names_second s.code) (view (held_result h.n m (most_models + s.b))) (zero_model
          h.n)) where
        first_good : Good h (view f)
        first_good = operand_good (leb negate_code s.code) f s.a is_first first_earlier

        second_good : Good h (view g)
        second_good = operand_good (names_second s.code) g s.b is_second second_earlier

        pub step_ready : (s.code ≡ input_code → ⊥) → (s.code ≡ multiply_code → ⊥) → (s.code ≡ quotient_code → ⊥)
            → StepReady h.n h.d s f g
        step_ready z w o = record {
          vars = vars;
          order = order;
          code = code_small;
          no_input = z;
          no_product = w;
          no_quotient = o;
          variable = in_variable;
          first = seen_sound f refl first_good;
          first_vars = seen_vars f refl first_good;
          second = seen_sound g refl second_good;
          second_vars = seen_vars g refl second_good;
        }

        -- what its code gives is the answer of the book's step
        pub by_code : {r : Accounted} → (s.code ≡ input_code → ⊥) → (s.code ≡ multiply_code → ⊥)
            → (s.code ≡ quotient_code → ⊥)
            → ((k : C.Model) → r ≡ accounted (step_answer h.n h.d s k (view f) (view g))
            (step_row h.n h.d s k (view f) (view g)))
            → r ≡ accounted given row
        unfolding view_book
        by_code z w o e =
            let k = model_of book s.a in
            let q = operand_is (leb negate_code s.code) f s.a is_first first_earlier in
            let t = operand_is (names_second s.code) g s.b is_second second_earlier in
            e k
            ∙ ap₂ accounted
            (only_named h.n h.d s k k (view f) (so_far s.a) (view g) (so_far s.b) code_small z w o q t
            ∙ step_is book so_far s step_at k stands o (λ e. refl))
            (row_named h.n h.d s k k (view f) (so_far s.a) (view g) (so_far s.b) code_small z w o q t
            ∙ row_is book so_far s step_at k stands o)

      -- ---- an input
      module _ (k : Model) (e : s.code ≡ input_code) (is_model : view k ≡ view (held_result h.n m s.a)) where
        input_seen : view k ≡ model_of book s.a
        input_seen = is_model ∙ l.loaded.each s.a (model_place e)

        pub input_sound : T (sound most_degree (view k))
        unfolding model_sound view_book
        input_sound = sound_order h.d (view k) order (subst (λ m. T (sound h.d m)) (sym input_seen)
            (and_right (eqb (model_of book s.a).vars h.n) _
            (model_passes book passes s.a (omega (arith, model_place e, length-map h.models view_model)))))

        pub by_input : {r : Accounted} → r ≡ accounted (accepted (view k)) all_carried → r ≡ accounted given row
        by_input q = q ∙ ap₂ accounted (ap accepted input_seen ∙ input_is book so_far s step_at stands e)
            (input_row book so_far s step_at stands e)

      -- ---- a product
      module _ (e : s.code ≡ multiply_code) where
        first_factor : s.a < i
        first_factor = by_first 6 e tt

        second_factor : s.b < i
        unfolding names_second
        second_factor = by_second 6 e tt

        pub factors : Factors h.d (held_result h.n m (most_models + s.a)) (held_result h.n m (most_models + s.b))
        unfolding held_result handed
        factors = record {
          order = order;
          first = seen_sound (held_result h.n m (most_models + s.a)) (seen s.a first_factor) (so_far_good s.a);
          second = seen_sound (held_result h.n m (most_models + s.b)) (seen s.b second_factor) (so_far_good s.b);
          vars = refl;
        }

        pub by_product : {r : Accounted}
            → r ≡ accounted (multiply h.d (view (held_result h.n m (most_models + s.a))) (view (held_result h.n m
            (most_models + s.b))))
            (λ k. product_shares h.d (view (held_result h.n m (most_models + s.a))) (view (held_result h.n m
            (most_models + s.b))))
            → r ≡ accounted given row
        unfolding view_book
        by_product q = q
            ∙ ap₂ (λ x y. accounted (multiply h.d x y) (λ k. product_shares h.d x y))
            (seen s.a first_factor) (seen s.b second_factor)
            ∙ ap₂ accounted (product_is book so_far s step_at stands e) (product_row book so_far s step_at stands e)

      -- ---- a quotient
      module _ (f g k w : Model) (e : s.code ≡ quotient_code)
          (is_first : view f ≡ view (held_result h.n m (most_models + s.a)))
          (is_second : view g ≡ view (held_result h.n m (most_models + s.b)))
          (is_third : view k ≡ view (held_result h.n m
          (most_models + s.v)))
          (is_fourth : view w ≡ view (held_result h.n m (most_models + nat_abs s.value))) where
        dividend : view f ≡ so_far s.a
        dividend = is_first ∙ seen s.a (by_first 9 e tt)

        divisor : view g ≡ so_far s.b
        divisor = is_second ∙ seen s.b (divisor_earlier e)

        proposed : view k ≡ so_far s.v
        proposed = is_third ∙ seen s.v (third_earlier e)

        inverse : view w ≡ so_far (nat_abs s.value)
        inverse = is_fourth ∙ seen (nat_abs s.value) (fourth_earlier e)

        -- each in as many variables as the first
        same_as : (x : Model) (a : ℕ) → view x ≡ so_far a → x.n ≡ f.n
        same_as x a q = seen_vars x q (so_far_good a) ∙ sym (seen_vars f dividend (so_far_good s.a))

        pub proposal : Proposal h.d f g k w
        proposal = record {
          order = order;
          dividend = seen_sound f dividend (so_far_good s.a);
          divisor = seen_sound g divisor (so_far_good s.b);
          proposed = seen_sound k proposed (so_far_good s.v);
          inverse = seen_sound w inverse (so_far_good (nat_abs s.value));
          divisor_vars = same_as g s.b divisor;
          proposed_vars = same_as k s.v proposed;
          inverse_vars = same_as w (nat_abs s.value) inverse;
        }

        pub by_quotient : {r : Answer} → r ≡ answer (at_place 0 (quotient h.d (view f) (view g) (view k) (view w)))
            → r ≡ answer (at_place 0 given)
        unfolding view_book
        by_quotient q = q ∙ ap (λ a. answer (at_place 0 a))
            (ap₂ (λ x y. quotient h.d x y (view k) (view w)) dividend divisor
            ∙ ap₂ (quotient h.d (so_far s.a) (so_far s.b)) proposed inverse
            ∙ quotient_is book so_far s step_at stands e)

      -- whose radius is all carried
      pub quotient_bounded : {r : Answer} → r ≡ answer (at_place 0 given) → r.model.radius ≤ span_limit
      unfolding view_book
      quotient_bounded e =
          radius_bounded (weaken radius_small (step_good book passes i step_at step_passes l.good)) e

      pub quotient_carried : {r : Answer} {x : Accounted} → s.code ≡ quotient_code → r ≡ answer (at_place 0 given)
          → ((a : R.Answer C.Model) → r ≡ answer (at_place 0 a) → x ≡ accounted a all_carried)
          → x ≡ accounted given row
      quotient_carried e q k = k given q ∙ ap (accounted given) (quotient_row book so_far s step_at stands e)

      -- ---- the steps that are left, after its result
      abbrev after : C.Model → R.Result (List C.Model)
      after k = run_steps book (l.models ++ (k ∷ [])) (drop (i + 1) book.steps)

      iteration : run_steps book [] book.steps ≡ (at_place i given followed_by after)
      unfolding run_steps
      iteration = sym l.rest ∙ ap (run_steps book l.models) next
          ∙ ap (λ j. at_place j given followed_by after) l.count

      -- the rows that are left, after its result
      abbrev rows_after : C.Model → List S.Shares
      rows_after k = row k ∷ run_shares book (l.models ++ (k ∷ [])) (drop (i + 1) book.steps)

      rows_iteration : l.rows ++ rows_of given rows_after ≡ rows_sound book
      unfolding run_shares
      rows_iteration = sym (ap (λ k. l.rows ++ run_shares book l.models k) next) ∙ l.rows_rest

      module _ {r : Accounted} (is_given : r ≡ accounted given row) where
        -- the answer without its shares
        answered : r.answer ≡ answer (at_place 0 given)
        unfolding accounted
        answered = ap (λ r. r.answer) is_given

        -- it is refused, and with it the run, at the number of the step; there are no rows from it on
        step_refused : {x : Refusal} {y : ℕ} → r.answer.verdict ≡ Err (refused_at x y)
            → Ended h (stopped (cause x) i) flat
        unfolding last_result answer at_place ◌followed_by◌ rows_of
        step_refused {x = x} {y = y} v = stop given answered iteration rows_iteration
          where
            stop : (a : R.Answer C.Model) → r.answer ≡ answer (at_place 0 a)
                → run_steps book [] book.steps ≡ (at_place i a followed_by after)
                → l.rows ++ rows_of a rows_after ≡ rows_sound book
                → Ended h (stopped (cause x) i) flat
            stop (accepted k) q t w = let z : ◌≡◌ {A = ℕ} 0 1 = cc in absurd (omega arith)
            stop (refused k) q t w =
                let both : refused_at (refusal k) 0 ≡ refused_at x y = cc in
                let same : refusal k ≡ x = ap (λ (p : Refused). p.0) both in
                record {
                  is = ap (λ k. stopped k i) (sym (ap cause same) ∙ cause_refusal k)
                      ∙ sym (ap (λ s. s followed_by (λ results. done (last (zero_model book.vars) results))) t);
                  rows = l.rows;
                  rows_few = omega (arith, l.rows_count, here_small);
                  rows_stored = l.rows_stored;
                  rows_all = sym (append-nil l.rows) ∙ w;
                }

        -- it is accepted, and put after the others, as its row is
        step_accepted : r.answer.verdict ≡ Ok tt
            → Running h (i + 1) (with_result r.answer.model (most_models + i) m) (with_row r.shares i flat)
        unfolding at_place ◌followed_by◌ accounted shares_of rows_of
        step_accepted v = record {
          models = l.models ++ (q.model ∷ []);
          count = omega (arith, next_number l.models q.model, l.count);
          good = each_snoc (λ m k. Good h k) l.good q.holds.sound;
          room = roomy_still h.n k (most_models + i) l.room place few long;
          loaded = record {
            each = λ a t. ap view (result_other h.n k (most_models + i) l.room place few a (model_before a t))
                ∙ l.loaded.each a t;
          };
          stored = λ j t. elim (ℕ_discrete j i) [
            | yes o ↦ ap (λ j. view (held_result h.n (with_result k (most_models + i) m) (most_models + j))) o
                ∙ result_here h.n k (most_models + i) l.room place long (held_vars q.holds) few
                ∙ held_view vars order q.holds
                ∙ sym (getD_last l.models q.model (zero_model h.n) j (l.count ∙ sym o))
            | no o ↦ ap view (result_other h.n k (most_models + i) l.room place few (most_models + j)
                (λ e. o (omega (arith, e))))
                ∙ l.stored j (omega (arith, t, o))
                ∙ sym (getD_before l.models q.model (zero_model h.n) j (omega (arith, t, o, l.count)))
          ];
          rest = sym (iteration ∙ ap (λ a. at_place i a followed_by after) q.is);
          rows = l.rows ++ (row q.model ∷ []);
          rows_count = omega (arith, length-append l.rows (row q.model ∷ []), l.rows_count);
          rows_stored = row_more (row q.model) l.rows_stored l.rows_count here_small
              (ap (λ r. r.shares) is_given ∙ ap (λ a. stored_shares (shares_of a row)) q.is);
          rows_rest = append_assoc l.rows (row q.model ∷ []) _
              ∙ sym (ap (λ a. l.rows ++ rows_of a rows_after) q.is) ∙ rows_iteration;
        }
          where
            q : Got h.n h.d given r.answer.model
            q = unfold view_book in got answered v (step_good book passes i step_at step_passes l.good)

            k : Model
            k = r.answer.model

            place : most_models + i < most_models + length h.steps
            place = omega (arith, at.within)

            model_before : (a : ℕ) → a < length h.models → a ≡ most_models + i → ⊥
            model_before a t e = omega (arith, e, t, models_few)

            long : r.answer.model.count ≤ length (listed r.answer.model)
            long =
                let e = ap (λ (k : Model). k.count) q.holds.packed in
                let w = ap (λ (k : Model). length (listed k)) q.holds.packed in
                omega (arith, e, w, packed_few q.holds.sound, packed_long q.holds.sound)

            few : r.answer.model.count ≤ most_terms
            few = let e = ap (λ (k : Model). k.count) q.holds.packed in
                omega (arith, e, packed_few q.holds.sound)

        -- what the slices hold once it is put down unless it is refused
        pub step_iterated : {v : Verdict} {m' : Results} {flat' : List ℕ} → v ≡ r.answer.verdict
            → m' ≡ settled_results r (most_models + i) m → flat' ≡ settled_rows r i flat → Iterated h i v m' flat'
        step_iterated {flat' = f} e x y = record {
          going = λ a.
              let c = sym e ∙ a in
              subst (λ n. Running h (i + 1) n f) (sym (x ∙ settled_put r (most_models + i) m flat c))
              (subst (Running h (i + 1) (with_result r.answer.model (most_models + i) m))
              (sym (y ∙ settled_row r i m flat c))
              (step_accepted c));
          ended = λ u w a.
              let c = sym e ∙ a in
              subst (Ended h (stopped (cause u) i)) (sym (y ∙ settled_row_kept r i m flat c)) (step_refused c);
        }

  -- ---- after the last step
  module _ {m : Results} {flat : List ℕ} (l : Running h (length h.steps) m flat) (k : Model)
      (is_last : view k ≡ view (held_result h.n m (most_models + (length h.steps - 1)))) where
    -- the last result
    abbrev final : C.Model
    final = last (zero_model h.n) l.models

    final_at : (k : List C.Model) → 1 ≤ length k
        → last (zero_model h.n) k ≡ get_or k (length k - 1) (zero_model h.n)
    unfolding last
    final_at [] s = absurd (omega arith)
    final_at (y ∷ k) s =
        let e : length k ≡ suc (length k) - 1 = omega arith in
        last_at (zero_model h.n) y k ∙ ap (λ j. get_or (y ∷ k) j (zero_model h.n)) e

    final_good : Good h final
    final_good = each_last (λ m k. Good h k) (zero_model h.n) (zero_model h.n) (zero_sound h.n h.d) l.good

    final_seen : view k ≡ final
    final_seen = is_last
        ∙ l.stored (length h.steps - 1) (omega (arith, in_limits_of.steps_low))
        ∙ ap (λ j. get_or l.models (j - 1) (zero_model h.n)) (sym l.count)
        ∙ sym (final_at l.models (omega (arith, l.count, in_limits_of.steps_low)))

    pub final_sound : T (sound most_degree (view k))
    final_sound = sound_order h.d (view k) order
        (subst (λ m. T (sound h.d m)) (sym final_seen) (sound_in h.n h.d final vars final_good))

    none_left : drop (length h.steps) book.steps ≡ []
    none_left = drop_of_length-le book.steps {i = length h.steps} (omega (arith, counted))

    ended : done l.models ≡ run_steps book [] book.steps
    unfolding run_steps
    ended = ap (run_steps book l.models) (sym none_left) ∙ l.rest

    all_there : l.rows ≡ rows_sound book
    unfolding run_shares
    all_there = sym (append-nil l.rows) ∙ ap (λ k. l.rows ++ run_shares book l.models k) (sym none_left)
        ∙ l.rows_rest

    pub last_ended : Ended h (done (view k)) flat
    unfolding last_result ◌followed_by◌ view_book
    last_ended = record {
      is = ap done final_seen
          ∙ ap (λ s. s followed_by (λ results. done (last (zero_model h.n) results))) ended;
      rows = l.rows;
      rows_few = omega (arith, l.rows_count, steps_few);
      rows_stored = l.rows_stored;
      rows_all = all_there;
    }
