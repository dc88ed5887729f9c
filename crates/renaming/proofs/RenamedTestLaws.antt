-- A renamed book passes the tests that the book passes.
use Rattle.std.specs.Prelude.{◌≡◌, refl, Bool, ◌&&◌, List, [], ◌∷◌, map, ℕ, suc, ◌<◌, eqb, ltb}
use Rattle.std.proofs.Common.{sym, ap₂, arith, le→leb}
use Rattle.std.proofs.Math.Path.{subst}
use Rattle.std.proofs.Math.Dec.{T, leb}
use Rattle.std.proofs.Math.ListN.{length-map}
use Rattle.calculus.specs.Monomial.{index_of}
use Rattle.calculus.specs.Model.{Model, most_vars, between, sound}
use Rattle.calculus.specs.Refusal.{all_from}
use Rattle.calculus.specs.Tests.{vars_sound, order_sound, variable_sound}
use Rattle.calculus.specs.Book.{Step, input, constant, variable, negate, add, subtract, multiply, substitute, sweep}
use Rattle.calculus.specs.Book.{quotient, antiderivative, Book, most_models, most_steps, limits_sound, model_sound}
use Rattle.calculus.specs.Book.{step_sound}
use Rattle.calculus_laws.specs.TestLaws.{and_left, and_right, both}
use Rattle.calculus_laws.specs.SoundLaws.{Sound, sound_parts, parts_sound}
use Rattle.calculus_laws.specs.BookLaws.{Passes, model_vars, variable_inside}
use Rattle.calculus_laws.specs.BookSoundLaws.{vars_pass}
use Rattle.format.specs.HeldBookLaws.{step_same}
use Rattle.renaming.specs.Reordering.{Reordering, rename_variable, rename_model, rename_step, rename_book}
use Rattle.renaming.proofs.RenamedModelLaws.{sound_renamed}

-- a test of each of a list, from one that passes before
pub all_from_map : {A B : Type 0} (f : A → B) (i : ℕ) (ok : ℕ → A → Bool) (ok' : ℕ → B → Bool) (l : List A)
    → ((j : ℕ) (x : A) → T (ok j x) → T (ok' j (f x))) → T (all_from i ok l) → T (all_from i ok' (map f l))
unfolding all_from
all_from_map f i ok ok' [] h t = tt
all_from_map f i ok ok' (x ∷ l) h t = both (ok' i (f x)) _ (h i x (and_left (ok i x) _ t))
    (all_from_map f (suc i) ok ok' l h (and_right (ok i x) _ t))

-- a renamed variable is one of n
variable_sound_renamed : {n : ℕ} (ρ : Reordering n) (v : ℕ) → T (variable_sound n v)
    → T (variable_sound n (rename_variable ρ v))
unfolding variable_sound between rename_variable
variable_sound_renamed {n} ρ v h = both (leb 1 (suc (ρ.to (index_of v)))) _
    (le→leb 1 (suc (ρ.to (index_of v))) (omega arith)) (le→leb (suc (ρ.to (index_of v))) n (omega (arith, inside)))
  where
    inside : ρ.to (index_of v) < n
    inside = ρ.to_inside (index_of v) (variable_inside n v h)

-- a renamed model keeps the rules
pub rules_renamed : {n : ℕ} (ρ : Reordering n) (d : ℕ) (m : Model) → T (vars_sound n) → m.vars ≡ n → T (sound d m)
    → T (sound d (rename_model ρ m))
rules_renamed {n} ρ d m v e h = parts_sound d (rename_model ρ m) here
    (unfold rename_model in (subst (λ k. Sound k d (rename_model ρ m)) (sym e) after))
  where
    here : T (between 1 most_vars (rename_model ρ m).vars)
    here = unfold rename_model vars_sound in subst (λ k. T (between 1 most_vars k)) (sym e) (unfold vars_sound in v)

    before : Sound n d m
    before = subst (λ k. Sound k d m) e (sound_parts d m h)

    after : Sound n d (rename_model ρ m)
    after = sound_renamed ρ d m before

-- and a renamed step its form
pub step_sound_renamed : (b : Book) (ρ : Reordering b.vars) (i : ℕ) (s : Step) → T (step_sound b i s)
    → T (step_sound b i (rename_step ρ s))
unfolding step_sound rename_step
step_sound_renamed b ρ i (input a) h = h
step_sound_renamed b ρ i (constant value) h = h
step_sound_renamed b ρ i (variable v) h = variable_sound_renamed ρ v h
step_sound_renamed b ρ i (negate a) h = h
step_sound_renamed b ρ i (add a c) h = h
step_sound_renamed b ρ i (subtract a c) h = h
step_sound_renamed b ρ i (multiply a c) h = h
step_sound_renamed b ρ i (substitute a c v) h =
    both (ltb a i && ltb c i) (variable_sound b.vars (rename_variable ρ v))
    (and_left (ltb a i && ltb c i) (variable_sound b.vars v) h)
    (variable_sound_renamed ρ v (and_right (ltb a i && ltb c i) (variable_sound b.vars v) h))
step_sound_renamed b ρ i (sweep a value) h = h
step_sound_renamed b ρ i (quotient a c k w) h = h
step_sound_renamed b ρ i (antiderivative a v) h = both (ltb a i) (variable_sound b.vars (rename_variable ρ v))
    (and_left (ltb a i) (variable_sound b.vars v) h)
    (variable_sound_renamed ρ v (and_right (ltb a i) (variable_sound b.vars v) h))

module _ (b : Book) (p : Passes b) (ρ : Reordering b.vars) where
  limits_pass : T (limits_sound (rename_book ρ b))
  unfolding limits_sound rename_book
  limits_pass = subst T (sym (ap₂
      (λ m s. vars_sound b.vars && order_sound b.order && leb m most_models && between 1 most_steps s)
      (length-map b.models (rename_model ρ)) (length-map b.steps (rename_step ρ)))) p.limits

  model_pass : (m : Model) → T (model_sound b m) → T (model_sound (rename_book ρ b) (rename_model ρ m))
  model_pass m h = unfold model_sound rename_book rename_model in
      both (eqb m.vars b.vars) _ (and_left (eqb m.vars b.vars) _ h)
      (rules_renamed ρ b.order m (vars_pass b p) (model_vars b m h)
      (and_right (eqb m.vars b.vars) _ h))

  -- the tests ask only for the number of models
  step_pass : (i : ℕ) (s : Step) → T (step_sound b i s) → T (step_sound (rename_book ρ b) i (rename_step ρ s))
  step_pass i s h = subst T (sym (step_same (rename_book ρ b) b i (rename_step ρ s) (unfold rename_book in refl)
      (unfold rename_book in length-map b.models (rename_model ρ)))) (step_sound_renamed b ρ i s h)

  pub renamed_passes : Passes (rename_book ρ b)
  renamed_passes = record {
    limits = limits_pass;
    models = unfold rename_book in all_from_map (rename_model ρ) 0 (λ i. model_sound b) _ b.models
        (λ i m h. model_pass m h) p.models;
    steps = unfold rename_book in all_from_map (rename_step ρ) 0 (step_sound b) _ b.steps step_pass p.steps;
  }
