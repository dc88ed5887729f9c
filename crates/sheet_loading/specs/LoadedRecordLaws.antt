-- Tests 5 and 6 of a sheet by how far the walks went, and what is loaded of a sheet that passes.
use Rattle.std.specs.Prelude.{◌≡◌, refl, Bool, cond, List, [], ◌∷◌, map, ℕ, ◌+◌, ◌*◌, ◌≤◌, ◌<◌, leb, length, take, drop, get_or}
use Rattle.std.proofs.Common.{sym, ◌∙◌, ap₂, subst, arith, take_all}
use Rattle.std.proofs.Math.Path.{ap}
use Rattle.std.proofs.Math.Bool.{true, false}
use Rattle.std.proofs.Math.Decide.{dec_lt}
use Rattle.std.proofs.Math.Dec.{T, leb→le}
use Rattle.std.proofs.lemmas.List.{length-map}
use borrow.Author.Tests.{le-leb, lt-leb, leb-false}
use Rattle.calculus.specs.Book.{most_steps, model_of}
use Rattle.calculus.specs.Refusal.{Refusal, Result, done, stopped, bad_model, bad_step}
use Rattle.model_types.specs.ModelStruct.{Verdict}
use Rattle.std.specs.Prelude.{Ok, Err}
use Rattle.model_types.specs.declared.Refusal.TheVariants.{BadModel, BadStep}
use Rattle.model_types.specs.Arrays.{first_places, padded}
use Rattle.model_types.specs.ArrayLaws.{first_padded}
use Rattle.model_types.specs.ModelStruct.{verdict, refusal}
use Rattle.format.specs.HeldBook.{HeldStep, HeldBook, view_book}
use Rattle.format.specs.Format.{trailer_sound, read_steps, read_records}
use Rattle.format.proofs.WriteBackLaws.{length_read_steps}
use Rattle.sheet_book.specs.declared.Step.{Step}
use Rattle.sheet_book.specs.BookStruct.{no_step, held_step, stored_step}
use Rattle.sheet_book.specs.BookStructLaws.{held_stored_step}
use Rattle.sheet_decode.specs.declared.Trailer.{Trailer}
use Rattle.sheet_decode.specs.Trailer.{held_trailer}
use Rattle.sheet_read_walk.specs.sheet_walk.declared.ModelsWalked.{ModelsWalked}
use Rattle.sheet_read_walk.specs.sheet_walk.Walk.{walk, models_walked, steps_walked}
use Rattle.sheet_tests.specs.RecordTestLaws.{gone, with_models, all_passed, model_fault, bytes_left, step_fault}
use Rattle.sheet_tests.specs.RecordTestLaws.{whole_sheet}
use Rattle.sheet_read_walk.specs.declared.StepsRead.{StepsRead}
use Rattle.sheet_read_walk.specs.KeptRecords.{steps_read}
use Rattle.sheet_results.specs.Results.{Results}
use Rattle.sheet_run_laws.specs.declared.StepList.{StepList}
use Rattle.sheet_run_laws.specs.Run as R
use Rattle.sheet_run_laws.specs.Run.{SameSteps, listed_steps}
use Rattle.sheet_loading.specs.declared.Loaded.{Loaded}
use Rattle.sheet_loading.specs.Loading.{KeepsRoom, ModelsLoaded, fault_of, RecordsLoaded}

-- steps that were stored are held again
held_again : (l : List HeldStep) → map held_step (map stored_step l) ≡ l
held_again [] = refl
held_again (x ∷ l) = ap₂ (λ (y : HeldStep) (r : List HeldStep). y ∷ r) (held_stored_step x) (held_again l)

-- ---- a sheet that passes tests 1 to 4
module _ (s : List ℕ) (t : Trailer) (h : T (trailer_sound (held_trailer t)))
    (e : t.offset + 8 * t.steps + 8 ≡ length s) {w : ModelsWalked} {m₀ m : Results}
    (g : ModelsLoaded t.n t.d t.models (take t.offset s) w m₀ m) {v : StepsRead}
    (on : v ≡ steps_read t.n t.models t.steps (drop t.offset s)) where
  abbrev answer : Result HeldBook
  answer = read_records s (held_trailer t)

  abbrev found : Verdict
  found = fault_of w.place t.models w.end t.offset v.place t.steps

  far : v.place ≡ steps_walked t.n t.models t.steps (drop t.offset s)
  unfolding steps_read
  far = ap (λ (x : StepsRead). x.place) on

  -- the way out by three tests
  by_tests : (a b c : Bool) → leb t.models w.place ≡ a → leb t.offset w.end ≡ b
      → leb t.steps v.place ≡ c → found ≡ verdict answer
  unfolding fault_of verdict refusal
  by_tests false b c p q r =
      let l : w.place < t.models = leb-false t.models w.place p in
      rw (p, model_fault s t h e w g.walked l)
  by_tests true false c p q r =
      let l : t.models ≤ w.place = leb→le t.models w.place (subst T (sym p) tt) in
      let k : w.end < t.offset = leb-false t.offset w.end q in
      rw (p, q, bytes_left s t h e w g.walked l k)
  by_tests true true false p q r =
      let l : t.models ≤ w.place = leb→le t.models w.place (subst T (sym p) tt) in
      let k : t.offset ≤ w.end = leb→le t.offset w.end (subst T (sym q) tt) in
      let f : v.place < t.steps = leb-false t.steps v.place r in
      rw (p, q, r, step_fault s t h e w g.walked l k v.place far f)
  by_tests true true true p q r =
      let l : t.models ≤ w.place = leb→le t.models w.place (subst T (sym p) tt) in
      let k : t.offset ≤ w.end = leb→le t.offset w.end (subst T (sym q) tt) in
      let f : t.steps ≤ v.place = leb→le t.steps v.place (subst T (sym r) tt) in
      rw (p, q, r, whole_sheet s t h e w g.walked l k v.place far f)

  pub verdict_found : found ≡ verdict answer
  verdict_found = by_tests (leb t.models w.place) (leb t.offset w.end) (leb t.steps v.place) refl refl
      refl

  -- ---- a book that is read
  module _ (x : HeldBook) (k : answer ≡ done x) where
    no_stop : (r : Refusal) (i : ℕ) → answer ≡ stopped r i → ⊥
    no_stop r i q = let z : ◌≡◌ {A = ℕ} 0 1 = cc in absurd (omega arith)

    all_models : t.models ≤ w.place
    all_models = elim (dec_lt w.place t.models) [
      | yes l ↦ absurd (no_stop _ _ (model_fault s t h e w g.walked l))
      | no l ↦ omega (arith, l)
    ]

    no_bytes : t.offset ≤ w.end
    no_bytes = elim (dec_lt w.end t.offset) [
      | yes l ↦ absurd (no_stop _ _ (bytes_left s t h e w g.walked all_models l))
      | no l ↦ omega (arith, l)
    ]

    all_steps : t.steps ≤ v.place
    all_steps = elim (dec_lt v.place t.steps) [
      | yes l ↦ absurd (no_stop _ _ (step_fault s t h e w g.walked all_models no_bytes v.place far l))
      | no l ↦ omega (arith, l)
    ]

    is_book : x ≡ with_models s t (gone s t h e).passed
    is_book =
        let q = whole_sheet s t h e w g.walked all_models no_bytes v.place far all_steps in
        cc

    passed : length (gone s t h e).passed ≡ t.models
    passed = all_passed s t h e w g.walked all_models

    -- its steps
    steps_are : v.steps ≡ padded no_step most_steps (map stored_step (read_steps t.steps (drop t.offset s)))
    unfolding steps_read
    steps_are = ap (λ (y : StepsRead). y.steps) on
        ∙ ap (λ y. padded no_step most_steps (map stored_step y)) (take_all
        (steps_walked t.n t.models t.steps (drop t.offset s)) (read_steps t.steps (drop t.offset s))
        (omega (arith, far, all_steps, length_read_steps t.steps (drop t.offset s))))

    same_list : read_steps t.steps (drop t.offset s)
        ≡ map held_step (first_places no_step t.steps v.steps)
    same_list =
        let all = read_steps t.steps (drop t.offset s) in
        let c : length (map stored_step all) ≡ t.steps =
        length-map all stored_step ∙ length_read_steps t.steps (drop t.offset s) in
        sym (ap (λ y. map held_step (first_places no_step t.steps y)) steps_are
        ∙ ap (λ n. map held_step (first_places no_step n (padded no_step most_steps (map stored_step all)))) (sym c)
        ∙ ap (map held_step) (first_padded no_step most_steps (map stored_step all))
        ∙ held_again all)

    pub same_steps : SameSteps x
        (record { n = t.n; d = t.d; count = t.steps; steps = v.steps })
    unfolding listed_steps
    same_steps = record {
      vars = ap (λ (b : HeldBook). b.n) is_book;
      order = ap (λ (b : HeldBook). b.d) is_book;
      steps = ap (λ (b : HeldBook). b.steps) is_book ∙ same_list;
    }

    -- its models
    stands : R.Loaded (with_models s t (gone s t h e).passed) m
    unfolding model_of view_book
    stands = record { each = (g.standing passed).each }

    pub loaded : R.Loaded x m
    loaded = subst (λ b. R.Loaded b m) (sym is_book) stands

    pub kept_room : KeepsRoom m₀ m
    kept_room = g.room passed

  -- all of it
  pub records_loaded : {r : Verdict} → r ≡ found → RecordsLoaded t.steps answer
      (record { list = record { n = t.n; d = t.d; count = t.steps; steps = v.steps }; verdict = r }) m₀ m
  records_loaded q = record {
    verdict_is = q ∙ verdict_found;
    count = refl;
    same = same_steps;
    models_are = loaded;
    room = kept_room;
  }
