-- Tests 5 and 6 of a sheet by what the walks answer: one law for each way out.
use Rattle.std.specs.Prelude.{◌≡◌, refl, Bool, true, false, ◌&&◌, T, leb, eqb, take, drop}
use Rattle.std.proofs.Common.{sym, ◌∙◌, arith, length-append, length-drop, length-take-le, eq-eqb}
use Rattle.std.proofs.Math.Path.{ap, subst, fun_ext}
use mathlib.Core.List.{List, [], ◌∷◌, ◌++◌}
use Prim.Native.Nat.{ℕ, zero, suc, ◌+◌, ◌*◌, ◌-◌, ◌≤◌, ◌<◌}
use Rattle.std.proofs.Math.ListN.{length}
use Rattle.calculus.specs.Refusal.{bad_limits, bad_offset, bad_model, bad_step}
use Rattle.calculus.specs.Refusal.{Result, done, stopped, require_at, require_each, ◌followed_by◌}
use Rattle.calculus_laws.specs.RefusalLaws.{require_at_passed}
use Rattle.calculus.specs.Book.{Book, limits_sound, model_sound}
use Rattle.calculus_laws.specs.TestLaws.{and_left}
use Rattle.format.specs.HeldBook.{HeldModel, HeldStep, HeldBook, view_model, outline, held_model_sound}
use Rattle.format.specs.HeldBook.{held_step_sound}
use Rattle.format.specs.Format.{trailer_sound, read_model, model_length, read_models, read_steps, read_records}
use Rattle.format.specs.Fields.{fields_sound}
use Rattle.format.proofs.WriteBackLaws.{length_read_steps}
use Rattle.sheet_book.specs.CodeLaws.{step_by_code}
use Rattle.sheet_book.specs.FailingLaws.{failing_stops, failing_none}
use Rattle.sheet_decode.specs.declared.Trailer.{Trailer}
use Rattle.sheet_decode.specs.Trailer.{held_trailer}
use Rattle.sheet_walk.specs.declared.ModelsWalked.{ModelsWalked}
use Rattle.sheet_walk.specs.Walk.{record_sound, Walk, walk, models_walked, steps_walked}
use Rattle.sheet_tests.specs.HeadedLaws.{passes}

-- ---- test 3
pub trailer_limits : (t : Trailer) → T (trailer_sound (held_trailer t))
    → T (limits_sound (outline t.n t.d t.models t.steps))
unfolding trailer_sound held_trailer
trailer_limits t h = and_left (limits_sound (outline t.n t.d t.models t.steps)) _ h

-- ---- test 5 by the walk
-- the test of a record that has the book's n
record_test : (n d m k : ℕ) (s : List ℕ)
    → leb (model_length n s) (length s) && held_model_sound (outline n d m k) (read_model n s) ≡ record_sound n d s
unfolding record_sound held_model_sound model_sound outline view_model read_model
record_test n d m k s = rw (eq-eqb n n refl)

-- a walk goes as far as test 5
pub record Reaches (before : List HeldModel) (c : ℕ) (s : List ℕ) (w : Walk) (r : Result (List HeldModel))
    : Type 0 where
  pub few : length w.passed ≤ length before + c
  pub short : length w.left ≤ length s
  pub faulty : length w.passed < length before + c → r ≡ stopped bad_model (length w.passed)
  pub over : length w.passed ≡ length before + c → 0 < length w.left → r ≡ stopped bad_model (length w.passed)
  pub all : length w.passed ≡ length before + c → length w.left ≡ 0 → r ≡ done w.passed

module _ (n d m k : ℕ) where
  abbrev b : Book
  b = outline n d m k

  pub reaches : (before : List HeldModel) (c : ℕ) (s : List ℕ)
      → Reaches before c s (walk n d before c s) (read_models b before c s)
  unfolding walk read_models outline require_at
  reaches before zero [] = record {
    few = omega arith;
    short = omega arith;
    faulty = λ h. absurd (omega arith);
    over = λ h l. absurd (omega arith);
    all = λ h l. refl;
  }
  reaches before zero (x ∷ s) = record {
    few = omega arith;
    short = omega arith;
    faulty = λ h. absurd (omega arith);
    over = λ h l. refl;
    all = λ h l. absurd (omega arith);
  }
  reaches before (suc c) s =
      subst (λ t. Reaches before (suc c) s (walk n d before (suc c) s) (require_at (length before) t bad_model later))
      (sym (record_test n d m k s))
      (go (record_sound n d s) (reaches (before ++ (read_model n s ∷ [])) c (drop (model_length n s) s)))
    where
      later : Result (List HeldModel)
      later = read_models b (before ++ (read_model n s ∷ [])) c (drop (model_length n s) s)

      on : Walk
      on = walk n d (before ++ (read_model n s ∷ [])) c (drop (model_length n s) s)

      go : (t : Bool) → Reaches (before ++ (read_model n s ∷ [])) c (drop (model_length n s) s) on later
          → Reaches before (suc c) s
          (elim t as (λ t. Walk) [ true ↦ on | false ↦ record { passed = before; left = s } ])
          (require_at (length before) t bad_model later)
      go true h =
          let e : length (before ++ (read_model n s ∷ [])) + c ≡ length before + suc c =
          omega (arith, length-append before (read_model n s ∷ [])) in
          record {
            few = omega (arith, h.few);
            short = omega (arith, h.short, length-drop (model_length n s) s);
            faulty = λ l. h.faulty (omega arith);
            over = λ l g. h.over (l ∙ sym e) g;
            all = λ l g. h.all (l ∙ sym e) g;
          }
      go false h = record {
        few = omega arith;
        short = omega arith;
        faulty = λ l. refl;
        over = λ l g. refl;
        all = λ l g. absurd (omega arith);
      }

-- ---- tests 5 and 6 of a sheet that passes the others
module _ (s : List ℕ) (t : Trailer) where
  abbrev book : Book
  book = outline t.n t.d t.models t.steps

  abbrev pub steps : List HeldStep
  steps = read_steps t.steps (drop t.offset s)

  -- the book, with these models
  abbrev pub with_models : List HeldModel → HeldBook
  with_models l = record { n = t.n; d = t.d; models = l; steps = steps }

  -- tests 5 and 6
  abbrev rest : Result HeldBook
  rest = read_models book [] t.models (take t.offset s)
      followed_by (λ l. require_each 0 (held_step_sound book) steps bad_step (done (with_models l)))

  module _ (h : T (trailer_sound (held_trailer t))) (e : t.offset + 8 * t.steps + 8 ≡ length s) where
    to_rest : read_records s (held_trailer t) ≡ rest
    unfolding read_records held_trailer
    to_rest = require_at_passed 0 (trailer_sound (held_trailer t)) bad_limits _ h
        ∙ passes 0 (eqb (t.offset + 8 * t.steps + 8) (length s)) bad_offset _ (eq-eqb _ _ e)

    -- test 5
    before : length (take t.offset s) ≡ t.offset
    before = length-take-le t.offset s (omega arith)

    abbrev pub gone : Walk
    gone = walk t.n t.d [] t.models (take t.offset s)

    far : Reaches [] t.models (take t.offset s) gone (read_models book [] t.models (take t.offset s))
    far = reaches t.n t.d t.models t.steps [] t.models (take t.offset s)

    by_models : (r : Result (List HeldModel)) → read_models book [] t.models (take t.offset s) ≡ r
        → read_records s (held_trailer t)
        ≡ (r followed_by (λ l. require_each 0 (held_step_sound book) steps bad_step (done (with_models l))))
    by_models r i = to_rest
        ∙ ap (λ r. r followed_by (λ l. require_each 0 (held_step_sound book) steps bad_step (done (with_models l)))) i

    module _ (w : ModelsWalked) (is : w ≡ models_walked t.n t.d t.models (take t.offset s)) where
      place_is : w.place ≡ length gone.passed
      unfolding models_walked
      place_is = ap (λ (x : ModelsWalked). x.place) is

      end_is : w.end ≡ t.offset - length gone.left
      unfolding models_walked
      end_is = ap (λ (x : ModelsWalked). x.end) is ∙ ap (λ l. l - length gone.left) before

      -- a model is faulty
      pub model_fault : w.place < t.models → read_records s (held_trailer t) ≡ stopped bad_model w.place
      unfolding ◌followed_by◌
      model_fault l = by_models _ (far.faulty (omega (arith, place_is))) ∙ ap (stopped bad_model) (sym place_is)

      module _ (l : t.models ≤ w.place) where
        pub all_passed : length gone.passed ≡ t.models
        all_passed = omega (arith, place_is, far.few)

        -- bytes are left
        pub bytes_left : w.end < t.offset → read_records s (held_trailer t) ≡ stopped bad_model t.models
        unfolding ◌followed_by◌
        bytes_left g = by_models _ (far.over (omega (arith, all_passed)) (omega (arith, end_is)))
            ∙ ap (stopped bad_model) all_passed

        module _ (g : t.offset ≤ w.end) (v : ℕ)
            (on : v ≡ steps_walked t.n t.models t.steps (drop t.offset s)) where
          test_6 : held_step_sound book ≡ fields_sound t.n t.models
          test_6 = fun_ext (λ i. fun_ext (λ x. step_by_code t.n t.d t.models t.steps i x))

          to_steps : read_records s (held_trailer t)
              ≡ require_each 0 (fields_sound t.n t.models) steps bad_step (done (with_models gone.passed))
          unfolding ◌followed_by◌
          to_steps = by_models _ (far.all (omega (arith, all_passed)) (omega (arith, end_is, far.short, before)))
              ∙ ap (λ ok. require_each 0 ok steps bad_step (done (with_models gone.passed))) test_6

          -- a step is faulty
          pub step_fault : v < t.steps → read_records s (held_trailer t) ≡ stopped bad_step (v)
          unfolding steps_walked
          step_fault f = to_steps
              ∙ failing_stops (fields_sound t.n t.models) bad_step _ 0 steps
              (omega (arith, on, length_read_steps t.steps (drop t.offset s)))
              ∙ ap (stopped bad_step) (sym on)

          -- all is read
          pub whole_sheet : t.steps ≤ v → read_records s (held_trailer t) ≡ done (with_models gone.passed)
          unfolding steps_walked
          whole_sheet f = to_steps
              ∙ failing_none (fields_sound t.n t.models) bad_step _ 0 steps
              (omega (arith, on, length_read_steps t.steps (drop t.offset s)))
