-- The run of a renamed book gives the renamed result, or the same refusal at the same step.
use Rattle.std.specs.Prelude.{◌≡◌, ◌&&◌, ℕ, T, nat_abs, length, get_or}
use Rattle.std.proofs.Math.Path.{refl, ap, ap₂, fun_ext}
use Rattle.std.proofs.Common.{sym, ◌∙◌}
use mathlib.Core.List.{List, [], ◌∷◌, ◌++◌, map}
use Rattle.std.proofs.Math.Dec.{ltb}
use Rattle.std.proofs.lemmas.List.{length-map}
use Rattle.std.proofs.Math.ListN.{get_or-map}
use Rattle.calculus.specs.Model.{Model, zero_model}
use Rattle.calculus.specs.Refusal.{Answer, accepted, refused, Result, done, stopped, at_place, ◌followed_by◌, all_from}
use Rattle.calculus.specs.Tests.{variable_sound}
use Rattle.calculus.specs.Book.{Step, input, constant, variable, negate, add, subtract, multiply, substitute, sweep}
use Rattle.calculus.specs.Book.{quotient, antiderivative, Book, step_sound, model_of, result_of, run_step, run_steps}
use Rattle.calculus.specs.Book.{last, Summary, summary, run_sound, run}
use Rattle.calculus_laws.specs.TestLaws.{and_left, and_right}
use Rattle.calculus_laws.specs.RefusalLaws.{IfAccepted, holds, IfDone, is_done}
use Rattle.calculus_laws.specs.EachLaws.{All, nil, each_snoc, each_last}
use Rattle.calculus_laws.specs.SoundLaws.{zero_sound}
use Rattle.calculus_laws.specs.BookLaws.{Passes, run_passes, variable_inside, next_number}
use Rattle.calculus_laws.specs.BookSoundLaws.{Good, operand, step_good, run_good}
use Rattle.renaming.specs.Reordering.{Reordering, rename_model, rename_step, rename_summary, rename_result}
use Rattle.renaming.specs.Reordering.{rename_book}
use Rattle.renaming.specs.RenamedAnswerLaws.{rename_answer}
use Rattle.renaming.proofs.RenamedModelLaws.{canonical_in_order, range_renamed, integral_renamed}
use Rattle.renaming.proofs.RenamedModelLaws.{exact_part_renamed}
use Rattle.renaming.proofs.RenamedOperationLaws.{zero_renamed, constant_renamed, variable_renamed, negate_renamed}
use Rattle.renaming.proofs.RenamedOperationLaws.{add_renamed, subtract_renamed, sweep_renamed}
use Rattle.renaming.proofs.RenamedProductLaws.{multiply_renamed}
use Rattle.renaming.proofs.RenamedSubstituteLaws.{substitute_renamed}
use Rattle.renaming.proofs.RenamedQuotientLaws.{quotient_renamed}
use Rattle.renaming.proofs.RenamedAntiderivativeLaws.{antiderivative_renamed}
use Rattle.renaming.proofs.RenamedTestLaws.{renamed_passes}

module _ (b : Book) (p : Passes b) (ρ : Reordering b.vars) where
  -- ---- operands
  -- element a of a renamed list
  element_renamed : (l : List Model) (a : ℕ)
      → get_or (map (rename_model ρ) l) a (zero_model b.vars) ≡ rename_model ρ (get_or l a (zero_model b.vars))
  element_renamed l a = ap (get_or (map (rename_model ρ) l) a) (zero_renamed ρ)
      ∙ get_or-map (rename_model ρ) l a (zero_model b.vars)

  model_of_renamed : (a : ℕ) → model_of (rename_book ρ b) a ≡ rename_model ρ (model_of b a)
  unfolding model_of rename_book
  model_of_renamed a = element_renamed b.models a

  pub result_of_renamed : (results : List Model) (a : ℕ)
      → result_of (rename_book ρ b) (map (rename_model ρ) results) a ≡ rename_model ρ (result_of b results a)
  unfolding result_of rename_book
  result_of_renamed results a = element_renamed results a

  -- ---- a step
  -- its answer, where the operands are renamed
  step_answer : {results : List Model} (i : ℕ) (s : Step) → T (step_sound b i s) → All (Good b p) results
      → run_step (rename_book ρ b) (λ a. rename_model ρ (result_of b results a)) (rename_step ρ s)
      ≡ rename_answer ρ (run_step b (result_of b results) s)
  unfolding run_step step_sound rename_step rename_answer rename_book
  step_answer i (input a) t g = ap accepted (model_of_renamed a)
  step_answer i (constant c) t g = ap accepted (constant_renamed ρ c)
  step_answer i (variable v) t g = ap accepted (variable_renamed ρ v (variable_inside b.vars v t))
  step_answer i (negate a) t g = ap accepted (negate_renamed ρ b.order _ (operand b p g a).0)
  step_answer i (add a c) t g = add_renamed ρ _ _ (canonical_in_order (operand b p g a).0)
      (canonical_in_order (operand b p g c).0)
  step_answer i (subtract a c) t g = subtract_renamed ρ b.order _ _ (operand b p g a).0 (operand b p g c).0
  step_answer i (multiply a c) t g = multiply_renamed ρ _ _
      (canonical_in_order (operand b p g a).0) (canonical_in_order (operand b p g c).0) b.order
  step_answer i (substitute a c v) t g = substitute_renamed ρ v
      (variable_inside b.vars v (and_right (ltb a i && ltb c i) (variable_sound b.vars v) t)) b.order _ _
      (operand b p g a).0 (operand b p g c).0
  step_answer i (sweep a c) t g = ap accepted (sweep_renamed ρ b.order (nat_abs c) _ (operand b p g a).0)
  step_answer i (quotient a c h w) t g = quotient_renamed ρ b.order _ _ _ _
      (operand b p g a).0 (operand b p g c).0 (operand b p g h).0 (operand b p g w).0
  step_answer i (antiderivative a v) t g = ap accepted (antiderivative_renamed ρ b.order v
      (variable_inside b.vars v (and_right (ltb a i) (variable_sound b.vars v) t)) _ (operand b p g a))

  pub step_renamed : {results : List Model} (i : ℕ) (s : Step) → T (step_sound b i s) → All (Good b p) results
      → run_step (rename_book ρ b) (result_of (rename_book ρ b) (map (rename_model ρ) results)) (rename_step ρ s)
      ≡ rename_answer ρ (run_step b (result_of b results) s)
  step_renamed {results} i s t g =
      ap (λ r. run_step (rename_book ρ b) r (rename_step ρ s)) (fun_ext (λ a. result_of_renamed results a))
      ∙ step_answer i s t g

  -- ---- the steps
  -- the results of a run; a refusal and its step stay
  unfoldable rename_results : Result (List Model) → Result (List Model)
  rename_results (done l) = done (map (rename_model ρ) l)
  rename_results (stopped r i) = stopped r i

  -- what is accepted goes on renamed
  placed_renamed : {P : Model → Type 0} (i : ℕ) (a : Answer Model) (F F' : Model → Result (List Model))
      → IfAccepted P a → ((m : Model) → P m → F' (rename_model ρ m) ≡ rename_results (F m))
      → (at_place i (rename_answer ρ a) followed_by F') ≡ rename_results (at_place i a followed_by F)
  unfolding rename_answer rename_results at_place ◌followed_by◌
  placed_renamed i (accepted m) F F' (holds h) e = e m h
  placed_renamed i (refused r) F F' h e = refl

  pub map_snoc : (l : List Model) (m : Model)
      → map (rename_model ρ) l ++ (rename_model ρ m ∷ []) ≡ map (rename_model ρ) (l ++ (m ∷ []))
  map_snoc [] m = refl
  map_snoc (x ∷ l) m = ap (rename_model ρ x ∷◌) (map_snoc l m)

  run_steps_renamed : (l : List Step) (results : List Model) → T (all_from (length results) (step_sound b) l)
      → All (Good b p) results
      → run_steps (rename_book ρ b) (map (rename_model ρ) results) (map (rename_step ρ) l)
      ≡ rename_results (run_steps b results l)
  unfolding run_steps all_from
  run_steps_renamed [] results h g = unfold rename_results in refl
  run_steps_renamed (s ∷ l) results h g =
      ap₂ (λ i a. at_place i a followed_by onward) (length-map results (rename_model ρ))
      (step_renamed (length results) s (and_left (step_sound b (length results) s) _ h) g)
      ∙ placed_renamed {P = Good b p} (length results) (run_step b (result_of b results) s)
      (λ m. run_steps b (results ++ (m ∷ [])) l) onward
      (step_good b p (length results) s (and_left (step_sound b (length results) s) _ h) g)
      (λ m hm. ap (λ r. run_steps (rename_book ρ b) r (map (rename_step ρ) l)) (map_snoc results m)
      ∙ run_steps_renamed l (results ++ (m ∷ []))
      (rw (next_number results m) (and_right (step_sound b (length results) s) _ h))
      (each_snoc (λ m k. Good b p k) g hm))
    where
      onward : Model → Result (List Model)
      onward m = run_steps (rename_book ρ b) (map (rename_model ρ) results ++ (m ∷ [])) (map (rename_step ρ) l)

  -- ---- the summary
  summary_renamed : (m : Model) → Good b p m → summary (rename_model ρ m) ≡ rename_summary ρ (summary m)
  unfolding summary rename_summary
  summary_renamed m g = λ i. record {
    model = rename_model ρ m;
    range = range_renamed ρ m (canonical_in_order g.0) i;
    integral = integral_renamed ρ m g.0.vars (canonical_in_order g.0) i;
    exact = exact_part_renamed ρ m g.0.vars (canonical_in_order g.0) i;
  }

  last_renamed : (z : Model) (l : List Model)
      → last (rename_model ρ z) (map (rename_model ρ) l) ≡ rename_model ρ (last z l)
  unfolding last
  last_renamed z [] = refl
  last_renamed z (m ∷ l) = last_renamed m l

  -- that of the last result
  ending : Book → List Model → Result Summary
  ending book results = done (summary (last (zero_model book.vars) results))

  ending_renamed : (r : Result (List Model)) → IfDone (All (Good b p)) r
      → (rename_results r followed_by ending (rename_book ρ b)) ≡ rename_result ρ (r followed_by ending b)
  unfolding rename_results rename_result ◌followed_by◌ ending rename_book
  ending_renamed (done l) (is_done g) = ap (λ m. done (summary m))
      (ap (λ z. last z (map (rename_model ρ) l)) (zero_renamed ρ) ∙ last_renamed (zero_model b.vars) l)
      ∙ ap done (summary_renamed (last (zero_model b.vars) l) (each_last (λ m k. Good b p k) (zero_model b.vars)
      (zero_model b.vars) (zero_sound b.vars b.order) g))
  ending_renamed (stopped r i) h = refl

  pub run_sound_renamed : run_sound (rename_book ρ b) ≡ rename_result ρ (run_sound b)
  unfolding run_sound ending
  run_sound_renamed = ap (λ r. r followed_by ending (rename_book ρ b)) steps_renamed
      ∙ ending_renamed (run_steps b [] b.steps) (run_good b p b.steps [] p.steps nil)
    where
      steps_renamed : run_steps (rename_book ρ b) [] (rename_book ρ b).steps
          ≡ rename_results (run_steps b [] b.steps)
      steps_renamed = unfold rename_book in run_steps_renamed b.steps [] p.steps nil

  -- ---- the run
  pub renamed_run : run (rename_book ρ b) ≡ rename_result ρ (run b)
  renamed_run = run_passes (rename_book ρ b) (renamed_passes b p ρ) ∙ run_sound_renamed
      ∙ ap (rename_result ρ) (sym (run_passes b p))
