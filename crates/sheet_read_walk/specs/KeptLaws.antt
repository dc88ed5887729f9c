-- What the loops over models and steps keep of what they read: one law for the start, an iteration and the end.
use Rattle.std.specs.Prelude.{◌≡◌, refl, ℕ, ◌+◌, ◌-◌, ◌≤◌, ◌<◌, get_or, take, drop, replicate}
use Rattle.std.proofs.Math.Path.{sym, ap, ap₂}
use Rattle.std.proofs.Common.{◌∙◌, arith}
use mathlib.Core.List.{List, [], ◌∷◌, ◌++◌, map, map-append}
use Rattle.std.proofs.Math.ListN.{length, set}
use Rattle.std.proofs.lemmas.List.{length-map}
use Rattle.std.proofs.Math.Seq.{length-take-le}
use Rattle.calculus.specs.Model.{zero_model}
use Rattle.calculus.specs.Book.{most_models, most_steps}
use Rattle.model_types.specs.declared.Model.{Model}
use Rattle.model_types.specs.Arrays.{padded}
use Rattle.model_types.specs.ModelStruct.{pack}
use Rattle.model_types.specs.ArrayLaws.{take_more, padded_more}
use Rattle.format.specs.HeldBook.{HeldModel, HeldStep}
use Rattle.format.specs.Format.{read_model, read_step, read_steps}
use Rattle.sheet_book.specs.declared.Step.{Step}
use Rattle.sheet_book.specs.BookStruct.{no_model, no_step, stored_model, stored_step}
use Rattle.sheet_book.specs.Failing.{first_failing}
use Rattle.sheet_book.proofs.ZeroLaws.{no_model_packed}
use Rattle.sheet_walk.specs.Walk.{Walk, walk, steps_walked}
use Rattle.sheet_walk.specs.ModelWalkLaws.{ModelsSoFar, Ends, walk_place, walk_after, models_first}
use Rattle.sheet_walk.specs.StepWalkLaws.{StepsSoFar, steps_first, steps_here, steps_inside}
use Rattle.sheet_read_walk.specs.declared.ModelsRead.{ModelsRead}
use Rattle.sheet_read_walk.specs.declared.StepsRead.{StepsRead}
use Rattle.sheet_read_walk.specs.KeptRecords.{models_read, steps_read}

-- ---- models: before model k
pub record ModelsKept (s : List ℕ) (n d count : ℕ) (models : List Model) (at k : ℕ) : Type 0 where
  pub before : List HeldModel
  pub so_far : ModelsSoFar s n d count before at k
  pub stored : models ≡ padded no_model most_models (map stored_model before)

pub models_none : (s : List ℕ) (n d count : ℕ) (none : Model) → none ≡ pack (zero_model 0)
    → ModelsKept s n d count (replicate most_models none) 0 0
unfolding padded most_models
models_none s n d count none e = record {
  before = [];
  so_far = models_first s n d count;
  stored = ap (replicate most_models) (e ∙ no_model_packed);
}

module _ (s : List ℕ) (n d count : ℕ) (models : List Model) (at k : ℕ) (h : ModelsKept s n d count models at k) where
  pub models_more : k < count → count ≤ most_models → (next : ℕ)
      → ModelsSoFar s n d count (h.before ++ (read_model n (drop at s) ∷ [])) next (k + 1)
      → (m : Model) → m ≡ stored_model (read_model n (drop at s))
      → ModelsKept s n d count (set models k m) next (k + 1)
  unfolding most_models
  models_more l few next w m e = record {
    before = h.before ++ (read_model n (drop at s) ∷ []);
    so_far = w;
    stored = ap (λ x. set x k m) h.stored
        ∙ padded_more no_model 16 (map stored_model h.before) k m
        (length-map h.before stored_model ∙ h.so_far.number) (omega arith)
        ∙ ap (padded no_model 16)
        (ap (λ x. map stored_model h.before ++ (x ∷ [])) e
        ∙ sym (map-append stored_model h.before (read_model n (drop at s) ∷ [])));
  }

  -- what the code answers when it leaves the loop
  pub models_answer : Ends s n d count h.before at k h.so_far
      → record { place = k; end = at; models = models } ≡ models_read n d count s
  unfolding models_read
  models_answer f =
      let kept : models ≡ padded no_model most_models (map stored_model (walk n d [] count s).passed) =
      h.stored ∙ sym (ap (λ (w : Walk). padded no_model most_models (map stored_model w.passed)) f) in
      ap₂ (λ p e. record { place = p; end = e; models = models })
      (walk_place s n d count h.before at k h.so_far f)
      (walk_after s n d count h.before at k h.so_far f)
      ∙ ap (λ l. record {
        place = length (walk n d [] count s).passed;
        end = length s - length (walk n d [] count s).left;
        models = l;
      }) kept

-- a walk over no records finds zeros in all places
pub no_models_read : (n d : ℕ) (s : List ℕ) → (models_read n d 0 s).models ≡ padded no_model most_models []
unfolding models_read walk
no_models_read n d s = refl

-- ---- steps: before step k
pub record StepsKept (s : List ℕ) (offset n m count : ℕ) (steps : List Step) (at k : ℕ) : Type 0 where
  pub so_far : StepsSoFar s offset n m count at k
  pub stored : steps ≡ padded no_step most_steps (map stored_step (take k (read_steps count (drop offset s))))

pub steps_none : (s : List ℕ) (offset n m count : ℕ)
    → StepsKept s offset n m count (replicate most_steps no_step) offset 0
unfolding padded most_steps
steps_none s offset n m count = record { so_far = steps_first s offset n m count; stored = refl }

module _ (s : List ℕ) (offset n m count : ℕ) (steps : List Step) (at k : ℕ)
    (h : StepsKept s offset n m count steps at k) where
  abbrev all : List HeldStep
  all = read_steps count (drop offset s)

  -- what the code answers when it leaves the loop
  pub steps_answer : k ≡ steps_walked n m count (drop offset s)
      → record { place = k; steps = steps } ≡ steps_read n m count (drop offset s)
  unfolding steps_read
  steps_answer f = rw (← f, ← h.stored)

  pub steps_more : k < count → count ≤ most_steps → (step : Step) → step ≡ stored_step (read_step (drop at s))
      → StepsSoFar s offset n m count (at + 8) (k + 1)
      → StepsKept s offset n m count (set steps k step) (at + 8) (k + 1)
  unfolding most_steps
  steps_more l few step e w =
      let here = steps_here s offset n m count at k h.so_far l step e in
      let within = steps_inside s offset n m count at k h.so_far l step e in
      record {
        so_far = w;
        stored = ap (λ x. set x k step) h.stored
            ∙ padded_more no_step 64 (map stored_step (take k all)) k step
            (length-map (take k all) stored_step ∙ length-take-le k all (omega (arith, within))) (omega arith)
            ∙ ap (padded no_step 64)
            (ap (λ x. map stored_step (take k all) ++ (x ∷ [])) (e ∙ ap stored_step (sym here))
            ∙ sym (map-append stored_step (take k all) (get_or all k (read_step (drop at s)) ∷ []))
            ∙ ap (map stored_step) (sym (take_more all k (read_step (drop at s)) within)));
      }

-- a walk over no steps finds zeros in all places
pub no_steps_read : (n m : ℕ) (s : List ℕ) → (steps_read n m 0 s).steps ≡ padded no_step most_steps []
unfolding steps_read steps_walked read_steps first_failing
no_steps_read n m s = refl
