-- What the tests of a book promise; a book that passes them need not be tested again.
use Rattle.std.specs.Prelude.{◌≡◌, refl, Bool, List, [], ◌∷◌, ◌++◌, ℕ, zero, suc, ◌+◌, ◌<◌, ◌≤◌, T, leb, eqb, length, get_or}
use Rattle.std.proofs.Common.{◌∙◌, arith, leb→le, eqb→eq, length-append}
use Rattle.calculus.specs.Monomial.{index_of}
use Rattle.calculus.specs.Model.{Model, zero_model, between}
use Rattle.calculus.specs.Refusal.{bad_limits, bad_model, bad_step, Result, done, stopped, require_each}
use Rattle.calculus.specs.Refusal.{◌followed_by◌}
use Rattle.calculus.specs.Tests.{variable_sound}
use Rattle.calculus.specs.Book.{Book, limits_sound, model_sound, step_sound, tested, model_of, run_steps, last}
use Rattle.calculus.specs.Book.{Summary, summary, run_sound, run}
use Rattle.calculus_laws.specs.TestLaws.{and_left, and_right}
use Rattle.calculus_laws.specs.MonomialLaws.{index_suc}
use Rattle.calculus.specs.Refusal.{all_from}
use Rattle.calculus_laws.specs.RefusalLaws.{require_at_passed, require_each_passed, Passed, passed_at}
use Rattle.calculus_laws.specs.RefusalLaws.{passed_each}

-- ---- the tests
-- tests 3, 5 and 6 pass
pub record Passes (b : Book) : Type 0 where
  pub limits : T (limits_sound b)
  pub models : T (all_from 0 (λ i. model_sound b) b.models)
  pub steps : T (all_from 0 (step_sound b) b.steps)

pub tested_passes : {A : Type 0} (b : Book) (r : Result A) → Passes b → tested b r ≡ r
unfolding tested
tested_passes b r p = require_at_passed 0 (limits_sound b) bad_limits _ p.limits
    ∙ require_each_passed 0 (λ i. model_sound b) b.models bad_model _ p.models
    ∙ require_each_passed 0 (step_sound b) b.steps bad_step r p.steps

-- what is done has passed
pub record Done {A : Type 0} (b : Book) (r : Result A) (v : A) : Type 0 where
  pub passes : Passes b
  pub result : r ≡ done v

pub tested_done : {A : Type 0} (b : Book) (r : Result A) (v : A) → tested b r ≡ done v → Done b r v
unfolding tested
tested_done {A} b r v h = record
    { passes = record { limits = limits.test; models = models.test; steps = steps.test }; result = steps.result }
  where
    later : Result A
    later = require_each 0 (step_sound b) b.steps bad_step r

    limits : Passed (limits_sound b) (require_each 0 (λ i. model_sound b) b.models bad_model later) v
    limits = passed_at 0 (limits_sound b) bad_limits _ v h

    models : Passed (all_from 0 (λ i. model_sound b) b.models) later v
    models = passed_each 0 (λ i. model_sound b) b.models bad_model later v limits.result

    steps : Passed (all_from 0 (step_sound b) b.steps) r v
    steps = passed_each 0 (step_sound b) b.steps bad_step r v models.result

-- a book that passes is run without them
pub run_passes : (b : Book) → Passes b → run b ≡ run_sound b
unfolding run
run_passes b p = tested_passes b (run_sound b) p

pub run_done : (b : Book) (s : Summary) → run b ≡ done s → Done b (run_sound b) s
unfolding run
run_done b s h = tested_done b (run_sound b) s h

-- ---- what they say of each model, step and number
pub all_from_at : {A : Type 0} (i : ℕ) (ok : ℕ → A → Bool) (l : List A) (d : A) → T (all_from i ok l)
    → (j : ℕ) → j < length l → T (ok (i + j) (get_or l j d))
unfolding all_from
all_from_at i ok [] d h j k = absurd (omega arith)
all_from_at i ok (x ∷ l) d h zero k = rw (let e : i + 0 ≡ i = omega arith in e) (and_left (ok i x) _ h)
all_from_at i ok (x ∷ l) d h (suc j) k = rw (let e : i + suc j ≡ suc i + j = omega arith in e)
    (all_from_at (suc i) ok l d (and_right (ok i x) _ h) j (omega arith))

pub model_passes : (b : Book) → Passes b → (a : ℕ) → a < length b.models → T (model_sound b (model_of b a))
unfolding model_of
model_passes b p a h = all_from_at 0 (λ i. model_sound b) b.models (zero_model b.vars) p.models a h

pub model_vars : (b : Book) (m : Model) → T (model_sound b m) → m.vars ≡ b.vars
unfolding model_sound
model_vars b m h = eqb→eq m.vars b.vars (and_left (eqb m.vars b.vars) _ h)

-- a number from a to b
pub between_low : (a b i : ℕ) → T (between a b i) → a ≤ i
unfolding between
between_low a b i h = leb→le a i (and_left (leb a i) _ h)

pub between_high : (a b i : ℕ) → T (between a b i) → i ≤ b
unfolding between
between_high a b i h = leb→le i b (and_right (leb a i) _ h)

pub variable_inside : (n v : ℕ) → T (variable_sound n v) → index_of v < n
unfolding variable_sound
variable_inside n v h = let e = index_suc v (between_low 1 n v h) in let q = between_high 1 n v h in omega arith

-- ---- the results of the steps
pub record Ran (b : Book) (s : Summary) : Type 0 where
  pub results : List Model
  pub ran : run_steps b [] b.steps ≡ done results
  pub is_summary : summary (last (zero_model b.vars) results) ≡ s

pub sound_ran : (b : Book) (s : Summary) → run_sound b ≡ done s → Ran b s
unfolding run_sound ◌followed_by◌
sound_ran b s h = go (run_steps b [] b.steps) refl h
  where
    go : (r : Result (List Model)) → run_steps b [] b.steps ≡ r
        → (r followed_by (λ results. done (summary (last (zero_model b.vars) results)))) ≡ done s → Ran b s
    go (done results) e k = record { results = results; ran = e; is_summary = cc }
    go (stopped r i) e k = let z : ◌≡◌ {A = ℕ} 0 1 = cc in absurd (omega arith)

-- one more result, one more number
pub next_number : {A : Type 0} (l : List A) (a : A) → length (l ++ (a ∷ [])) ≡ suc (length l)
next_number l a = length-append l (a ∷ []) ∙ omega arith
