-- A book in memory, place by place: its steps are those of a list, its models are put into flat slices one by one; how
-- a run begins there, and how it ends.
use Rattle.std.specs.Prelude.{◌≡◌, refl, List, map, ℕ, ◌+◌, ◌-◌, ◌<◌, ◌≤◌, eqb, replicate}
use Rattle.std.proofs.Math.Path.{sym, ap, subst}
use Rattle.std.proofs.Common.{◌∙◌, arith}
use Rattle.std.proofs.Math.Decide.{ℕ_discrete}
use Rattle.std.proofs.Math.Dec.{T}
use Rattle.std.proofs.Math.ListN.{length, get_or, length-map, get_or-map}
use Rattle.calculus.specs.Model.{most_degree, most_terms, sound}
use Rattle.calculus.specs.Refusal.{done}
use Rattle.calculus.specs.Book.{most_models, most_steps, model_sound, model_of}
use Rattle.calculus_laws.specs.TestLaws.{and_right}
use Rattle.calculus_laws.specs.BookLaws.{model_passes, model_vars}
use Rattle.model_types.specs.declared.Model.{Model}
use Rattle.std.specs.Prelude.{Ok}
use Rattle.model_types.specs.ModelStruct.{listed, view}
use Rattle.model_types.specs.ModelStructLaws.{limits}
use Rattle.model_types.specs.PairedLaws.{length_paired}
use Rattle.format.specs.HeldBook.{HeldBook, view_model, view_book, HeldPasses}
use Rattle.format.specs.HeldBookLaws.{view_passes}
use Rattle.format.proofs.PlaceLaws.{get_d_any}
use Rattle.sheet_book.specs.declared.Book.{Book}
use Rattle.sheet_book.specs.BookStruct.{no_model, no_step, held_model, held_step, held_book}
use Rattle.sheet_book.specs.BookStructLaws.{view_held_model}
use Rattle.sheet_book.specs.FailingLaws.{length_held, held_at, count_models}
use Rattle.sheet_results.specs.Results.{Results, Roomy, held_result, with_result}
use Rattle.sheet_results.specs.ResultsLaws.{result_here, result_other, roomy_still}
use Rattle.sheet_run_laws.specs.declared.StepList.{StepList}
use Rattle.sheet_run_laws.specs.declared.Stop.{Stop}
use Rattle.sheet_run_laws.specs.Run.{listed_steps, SameSteps, Loaded, Prepared, most_entries, Running, Ended}
use Rattle.sheet_run_laws.specs.Run.{StepAtIndex, Begun, Part, Stopped}
use Rattle.sheet_run_laws.specs.RunLaws.{in_limits_of, models_few, no_rows, running_first}
use Rattle.sheet_run_laws.specs.RunLaws.{final_sound, last_ended}

-- ---- a list of steps
module _ {h : HeldBook} {l : StepList} (e : SameSteps h l) where
  pub count_listed : length h.steps ≡ l.count
  unfolding listed_steps
  count_listed = ap length e.steps ∙ length_held no_step held_step l.count l.steps

  module _ (p : HeldPasses h) where
    pub few_steps : l.count ≤ most_steps
    unfolding most_steps
    few_steps = omega (arith, count_listed, (in_limits_of p).steps_high)

    pub some_step : 1 ≤ l.count
    some_step = omega (arith, count_listed, (in_limits_of p).steps_low)

    -- the step at a place
    pub step_here : length l.steps ≡ most_steps → (i : ℕ) → i < l.count
        → StepAtIndex h i (held_step (get_or l.steps i no_step))
    unfolding listed_steps
    step_here w i k = record {
      within = omega (arith, count_listed, k);
      is_step = ap (λ s. get_or s i (held_step (get_or l.steps i no_step))) e.steps
          ∙ get_d_any (listed_steps l) i _ (held_step no_step)
          (omega (arith, k, length_held no_step held_step l.count l.steps))
          ∙ held_at no_step held_step l.count l.steps (omega (arith, few_steps, w)) i no_step k;
    }

-- ---- the models of a book in memory
-- the first k models stand in flat slices
abbrev pub LoadedFirst : (h : HeldBook) → (k : ℕ) → Results → Type 0
LoadedFirst h k m = (a : ℕ) → a < k → view (held_result h.n m a) ≡ model_of (view_book h) a

module _ (b : Book) (p : HeldPasses (held_book b)) where
  few_models : b.model_count ≤ most_models
  few_models = omega (arith, count_models b, models_few p)

  -- the model at a place
  pub model_here : length b.models ≡ most_models → (a : ℕ) (x : Model) → a < b.model_count
      → view (get_or b.models a x) ≡ model_of (view_book (held_book b)) a
  unfolding model_of view_book
  model_here w a x l =
      sym (view_held_model (get_or b.models a x))
      ∙ ap view_model (sym at)
      ∙ sym (get_or-map view_model (held_book b).models a (held_model x))
      ∙ get_d_any (map view_model (held_book b).models) a _ _
      (omega (arith, length-map (held_book b).models view_model, count_models b))
    where
      at : get_or (held_book b).models a (held_model x) ≡ held_model (get_or b.models a x)
      at = unfold held_book in held_at no_model held_model b.model_count b.models
          (omega (arith, few_models, w)) a x l

-- one more is put, whose arrays have all their places
module _ {h : HeldBook} (p : HeldPasses h) {places k : ℕ} {m : Results} (r : Roomy places m) (l : k < places)
    (x : Model) (u : length x.keys ≡ most_terms) (v : length x.coefficients ≡ most_terms)
    (o : k < length h.models) (e : view x ≡ model_of (view_book h) k) where
  tested : T (model_sound (view_book h) (view x))
  unfolding view_book
  tested = subst (λ v. T (model_sound (view_book h) v)) (sym e)
      (model_passes (view_book h) (view_passes h p) k (omega (arith, o, length-map h.models view_model)))

  its_vars : x.n ≡ h.n
  unfolding view view_book
  its_vars = model_vars (view_book h) (view x) tested

  its_count : x.count ≤ most_terms
  unfolding model_sound view_book
  its_count = (limits h.d x (and_right (eqb (view x).vars h.n) _ tested)).few

  all_places : length (listed x) ≡ length x.keys
  all_places = length_paired x.keys x.coefficients (u ∙ sym v)

  its_places : x.count ≤ length (listed x)
  its_places = omega (arith, its_count, all_places, u)

  pub load_room : Roomy places (with_result x k m)
  load_room = roomy_still h.n x k r l its_count its_places

  pub load_more : LoadedFirst h k m → LoadedFirst h (k + 1) (with_result x k m)
  load_more f a t = elim (ℕ_discrete a k) [
    | yes q ↦ ap (λ a. view (held_result h.n (with_result x k m) a)) q
        ∙ result_here h.n x k r l its_places its_vars its_count ∙ e ∙ ap (model_of (view_book h)) (sym q)
    | no q ↦ ap view (result_other h.n x k r l its_count a q) ∙ f a (omega (arith, t, q))
  ]

-- all are there
pub load_end : (b : Book) {k : ℕ} {m : Results} → LoadedFirst (held_book b) k m → b.model_count ≤ k
    → Loaded (held_book b) m
load_end b f h = record { each = λ a t. f a (omega (arith, t, h, count_models b)) }

-- a book's own list of steps
pub own_steps : (b : Book) → SameSteps (held_book b)
    (record { n = b.n; d = b.d; count = b.step_count; steps = b.steps })
unfolding held_book listed_steps
own_steps b = record { vars = refl; order = refl; steps = refl }

-- ---- the start of a run
pub begun_first : {l : StepList} {m : Results} (t : Prepared l m) → Begun t.held l 0 m (replicate 256 0)
begun_first {m = m} t = record {
  passes = t.passes;
  same = t.same;
  so_far = running_first t.passes
      (subst (λ c. Roomy (most_models + c) m) (sym (count_listed t.same)) t.room) t.loaded no_rows;
  within = omega arith;
}

-- of some book, which is the one that is prepared
abbrev pub part_first : {l : StepList} {m : Results} → Prepared l m → Part l 0 m (replicate 256 0)
part_first t = record { held = t.held; begun = begun_first t }

-- ---- the end of a run that was not refused
module _ {h : HeldBook} {l : StepList} {t : Stop} {m : Results} {flat : List ℕ}
    (s : Stopped h l most_entries t m flat) (e : t.verdict ≡ Ok tt) where
  last_begun : Begun h l t.at m flat
  last_begun = s.going e

  whole_run : Running h (length h.steps) m flat
  whole_run =
      let q : t.at ≡ length h.steps = omega (arith, s.whole (omega arith) e, count_listed last_begun.same) in
      subst (λ i. Running h i m flat) q last_begun.so_far

  module _ (k : Model) (q : view k ≡ view (held_result l.n m (most_models + (l.count - 1)))) where
    is_last : view k ≡ view (held_result h.n m (most_models + (length h.steps - 1)))
    is_last = q ∙ ap (λ j. view (held_result l.n m (most_models + (j - 1)))) (sym (count_listed last_begun.same))
        ∙ ap (λ n. view (held_result n m (most_models + (length h.steps - 1)))) (sym last_begun.same.vars)

    pub last_sound : T (sound most_degree (view k))
    last_sound = final_sound last_begun.passes whole_run k is_last

    -- the run leads to it
    pub run_ended : Ended h (done (view k)) flat
    run_ended = last_ended last_begun.passes whole_run k is_last
