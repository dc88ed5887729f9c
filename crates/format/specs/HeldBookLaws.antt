-- What the tests of a held book promise: the book that it stands for passes the tests of the calculus.
use Rattle.std.specs.Prelude.{◌≡◌, Bool, false, ◌&&◌, List, [], ◌∷◌, map, ℕ, zero, suc, ◌<◌, ◌≤◌, leb, ltb, length, get_or}
use Rattle.std.proofs.Math.Path.{refl, sym, subst}
use Rattle.std.proofs.Common.{◌∙◌, ap, arith, leb→le}
use Rattle.std.proofs.Math.Option.{Option, some, none}
use Rattle.std.proofs.Math.Dec.{T}
use Rattle.std.proofs.lemmas.List.{length-map, length-replicate}
use Rattle.calculus.specs.Key.{key_width}
use Rattle.calculus.specs.Model.{Model, most_vars, most_degree, zero_model, between}
use Rattle.calculus.specs.Refusal.{bad_limits, bad_model, bad_step, Result, done, require_each}
use Rattle.calculus.specs.Tests.{vars_sound, order_sound, variable_sound}
use Rattle.calculus.specs.Book.{Step, input, constant, variable, negate, add, subtract, multiply, substitute, sweep}
use Rattle.calculus.specs.Book.{quotient, antiderivative, Book, most_models, most_steps, limits_sound, model_sound}
use Rattle.calculus.specs.Book.{step_sound, run, run_sound}
use Rattle.calculus_laws.specs.TestLaws.{and_left, and_right, both}
use Rattle.calculus.specs.Refusal.{all_from}
use Rattle.calculus_laws.specs.RefusalLaws.{require_at_passed, require_each_passed, Passed, passed_at, passed_each}
use Rattle.calculus_laws.specs.BookLaws.{Passes, run_passes, between_low, between_high}
use Rattle.format.specs.HeldBook.{HeldModel, HeldStep, HeldBook, view_model}
use Rattle.format.specs.HeldBook.{view_step, view_steps, view_book, outline, outline_of}
use Rattle.format.specs.HeldBook.{held_model_sound, held_step_sound, held_tested, HeldPasses}

-- ---- the limits
pub record InLimits (n d m k : ℕ) : Type 0 where
  pub n_low : 1 ≤ n
  pub n_high : n ≤ key_width
  pub d_low : 1 ≤ d
  pub d_high : d ≤ 15
  pub models : m ≤ 16
  pub steps_low : 1 ≤ k
  pub steps_high : k ≤ 64

module _ (b : Book) (h : T (limits_sound b)) where
  abbrev three : Bool
  three = between 1 key_width b.vars && between 1 15 b.order && leb (length b.models) 16

  n_and_d : T (between 1 key_width b.vars && between 1 15 b.order)
  unfolding limits_sound vars_sound order_sound most_vars key_width most_degree most_models most_steps
  n_and_d = and_left (between 1 key_width b.vars && between 1 15 b.order) _ (and_left three _ h)

  few_models : T (leb (length b.models) 16)
  unfolding limits_sound vars_sound order_sound most_vars key_width most_degree most_models most_steps
  few_models = and_right (between 1 key_width b.vars && between 1 15 b.order) _ (and_left three _ h)

  few_steps : T (between 1 64 (length b.steps))
  unfolding limits_sound vars_sound order_sound most_vars key_width most_degree most_models most_steps
  few_steps = and_right three _ h

  book_limits : InLimits b.vars b.order (length b.models) (length b.steps)
  book_limits = record {
    n_low = between_low 1 key_width b.vars (and_left (between 1 key_width b.vars) _ n_and_d);
    n_high = between_high 1 key_width b.vars (and_left (between 1 key_width b.vars) _ n_and_d);
    d_low = between_low 1 15 b.order (and_right (between 1 key_width b.vars) _ n_and_d);
    d_high = between_high 1 15 b.order (and_right (between 1 key_width b.vars) _ n_and_d);
    models = leb→le (length b.models) 16 few_models;
    steps_low = between_low 1 64 (length b.steps) few_steps;
    steps_high = between_high 1 64 (length b.steps) few_steps;
  }

outline_models : (n d m k : ℕ) → length (outline n d m k).models ≡ m
unfolding outline
outline_models n d m k = length-replicate m (zero_model n)

outline_steps : (n d m k : ℕ) → length (outline n d m k).steps ≡ k
unfolding outline
outline_steps n d m k = length-replicate k (input 0)

pub in_limits : (n d m k : ℕ) → T (limits_sound (outline n d m k)) → InLimits n d m k
unfolding outline
in_limits n d m k h =
    subst (λ i. InLimits n d i k) (outline_models n d m k)
    (subst (λ i. InLimits n d (length (outline n d m k).models) i) (outline_steps n d m k)
    (book_limits (outline n d m k) h))

-- ---- the tests ask only for n, d and the counts
limits_same : (b c : Book) → b.vars ≡ c.vars → b.order ≡ c.order → length b.models ≡ length c.models
    → length b.steps ≡ length c.steps → limits_sound b ≡ limits_sound c
unfolding limits_sound
limits_same b c p q r s = rw (p, q, r, s)

model_same : (b c : Book) (m : Model) → b.vars ≡ c.vars → b.order ≡ c.order → model_sound b m ≡ model_sound c m
unfolding model_sound
model_same b c m p q = rw (p, q)

pub step_same : (b c : Book) (i : ℕ) (s : Step) → b.vars ≡ c.vars → length b.models ≡ length c.models
    → step_sound b i s ≡ step_sound c i s
unfolding step_sound
step_same b c i (input a) p q = ap (ltb a) q
step_same b c i (constant v) p q = refl
step_same b c i (variable v) p q = ap (λ n. variable_sound n v) p
step_same b c i (negate a) p q = refl
step_same b c i (add a e) p q = refl
step_same b c i (subtract a e) p q = refl
step_same b c i (multiply a e) p q = refl
step_same b c i (substitute a e v) p q = ap (λ n. ltb a i && ltb e i && variable_sound n v) p
step_same b c i (sweep a v) p q = refl
step_same b c i (quotient a e k w) p q = refl
step_same b c i (antiderivative a v) p q = ap (λ n. ltb a i && variable_sound n v) p

-- ---- a step that passes is one
pub record StandsFor (b : Book) (i : ℕ) (s : HeldStep) : Type 0 where
  pub step : Step
  pub is_view : view_step s ≡ some step
  pub passes : T (step_sound b i step)

pub stands_for : (b : Book) (i : ℕ) (s : HeldStep) → T (held_step_sound b i s) → StandsFor b i s
unfolding held_step_sound
stands_for b i s h = go (view_step s) refl h
  where
    go : (o : Option Step) → view_step s ≡ o
        → T (elim o as (λ o. Bool) [ some t ↦ step_sound b i t | none ↦ false ]) → StandsFor b i s
    go (some t) e k = record { step = t; is_view = e; passes = k }
    go none e k = absurd k

-- ---- the book of a held book that passes
pub held_tested_passes : {A : Type 0} (h : HeldBook) (r : Result A) → HeldPasses h → held_tested h r ≡ r
unfolding held_tested
held_tested_passes h r p = require_at_passed 0 (limits_sound (outline_of h)) bad_limits _ p.limits
    ∙ require_each_passed 0 (λ i. held_model_sound (outline_of h)) h.models bad_model _ p.models
    ∙ require_each_passed 0 (held_step_sound (outline_of h)) h.steps bad_step r p.steps

pub record HeldDone {A : Type 0} (h : HeldBook) (r : Result A) (v : A) : Type 0 where
  pub passes : HeldPasses h
  pub result : r ≡ done v

pub held_tested_done : {A : Type 0} (h : HeldBook) (r : Result A) (v : A) → held_tested h r ≡ done v → HeldDone h r v
unfolding held_tested
held_tested_done {A} h r v e = record {
  passes = record { limits = limits.test; models = models.test; steps = steps.test };
  result = steps.result;
}
  where
    later : Result A
    later = require_each 0 (held_step_sound (outline_of h)) h.steps bad_step r

    limits : Passed (limits_sound (outline_of h))
        (require_each 0 (λ i. held_model_sound (outline_of h)) h.models bad_model later) v
    limits = passed_at 0 (limits_sound (outline_of h)) bad_limits _ v e

    models : Passed (all_from 0 (λ i. held_model_sound (outline_of h)) h.models) later v
    models = passed_each 0 (λ i. held_model_sound (outline_of h)) h.models bad_model later v limits.result

    steps : Passed (all_from 0 (held_step_sound (outline_of h)) h.steps) r v
    steps = passed_each 0 (held_step_sound (outline_of h)) h.steps bad_step r v models.result

models_pass : (b : Book) (i : ℕ) (l : List HeldModel) → T (all_from i (λ i. held_model_sound b) l)
    → T (all_from i (λ i. model_sound b) (map view_model l))
unfolding all_from held_model_sound
models_pass b i [] h = tt
models_pass b i (m ∷ l) h = both (model_sound b (view_model m)) _ (and_left (model_sound b (view_model m)) _ h)
    (models_pass b (suc i) l (and_right (model_sound b (view_model m)) _ h))

-- all steps stand in the view
pub record Viewed (b : Book) (i : ℕ) (l : List HeldStep) : Type 0 where
  pub pass : T (all_from i (step_sound b) (view_steps l))
  pub count : length (view_steps l) ≡ length l

pub view_more : (s : HeldStep) (t : Step) (l : List HeldStep) → view_step s ≡ some t
    → view_steps (s ∷ l) ≡ t ∷ view_steps l
unfolding view_steps
view_more s t l e = rw (e, view_steps)

pub steps_pass : (b : Book) (i : ℕ) (l : List HeldStep) → T (all_from i (held_step_sound b) l) → Viewed b i l
unfolding all_from
steps_pass b i [] h = record { pass = unfold view_steps in tt; count = unfold view_steps in refl }
steps_pass b i (s ∷ l) h = go (stands_for b i s (and_left (held_step_sound b i s) _ h))
    (steps_pass b (suc i) l (and_right (held_step_sound b i s) _ h))
  where
    go : StandsFor b i s → Viewed b (suc i) l → Viewed b i (s ∷ l)
    go t r = record {
      pass = rw (view_more s t.step l t.is_view) (both (step_sound b i t.step) _ t.passes r.pass);
      count = rw (view_more s t.step l t.is_view) (ap suc r.count);
    }

-- step by step
pub view_at : (b : Book) (i : ℕ) (l : List HeldStep) (x : HeldStep) (t : Step) → T (all_from i (held_step_sound b) l)
    → (j : ℕ) → j < length l → view_step (get_or l j x) ≡ some (get_or (view_steps l) j t)
unfolding all_from
view_at b i [] x t h j k = absurd (omega arith)
view_at b i (s ∷ l) x t h j k = go j k (stands_for b i s (and_left (held_step_sound b i s) _ h))
    (view_at b (suc i) l x t (and_right (held_step_sound b i s) _ h))
  where
    go : (j : ℕ) → j < suc (length l) → StandsFor b i s
        → ((j : ℕ) → j < length l → view_step (get_or l j x) ≡ some (get_or (view_steps l) j t))
        → view_step (get_or (s ∷ l) j x) ≡ some (get_or (view_steps (s ∷ l)) j t)
    go zero k f r = rw (view_more s f.step l f.is_view) f.is_view
    go (suc j) k f r = rw (view_more s f.step l f.is_view) (r j (omega arith))

all_same : {A : Type 0} (i : ℕ) (p q : ℕ → A → Bool) (l : List A) → ((i : ℕ) (x : A) → p i x ≡ q i x)
    → T (all_from i p l) → T (all_from i q l)
unfolding all_from
all_same i p q [] e h = tt
all_same i p q (x ∷ l) e h = both (q i x) _ (rw (← e i x) (and_left (p i x) _ h))
    (all_same (suc i) p q l e (and_right (p i x) _ h))

-- a held book that passes the tests has a book that passes those of the calculus
module _ (h : HeldBook) (p : HeldPasses h) where
  abbrev o : Book
  o = outline_of h

  viewed : Viewed o 0 h.steps
  viewed = steps_pass o 0 h.steps p.steps

  counted_models : length o.models ≡ length (view_book h).models
  unfolding outline_of view_book
  counted_models = outline_models h.n h.d (length h.models) (length h.steps)
      ∙ sym (length-map h.models view_model)

  counted_steps : length o.steps ≡ length (view_book h).steps
  unfolding outline_of view_book
  counted_steps = outline_steps h.n h.d (length h.models) (length h.steps) ∙ sym viewed.count

  pub view_passes : Passes (view_book h)
  unfolding view_book outline_of outline
  view_passes = record {
    limits = subst T (limits_same o (view_book h) refl refl counted_models counted_steps) p.limits;
    models = all_same 0 (λ i. model_sound o) (λ i. model_sound (view_book h)) (map view_model h.models)
        (λ i m. model_same o (view_book h) m refl refl) (models_pass o 0 h.models p.models);
    steps = all_same 0 (step_sound o) (step_sound (view_book h)) (view_steps h.steps)
        (λ i s. step_same o (view_book h) i s refl counted_models) viewed.pass;
  }

  -- and is run without them
  pub view_run : run (view_book h) ≡ run_sound (view_book h)
  view_run = run_passes (view_book h) view_passes
