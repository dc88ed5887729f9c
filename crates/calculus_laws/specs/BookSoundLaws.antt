-- Every result of a book that passes its tests is a sound model of the book's variables and order.
use Rattle.std.specs.Prelude.{◌≡◌, ◌&&◌, ℕ, ◌<◌, ◌≤◌, ltb, eqb, nat_abs, length}
use Rattle.std.proofs.Common.{sym, leb→le, ltb→lt}
use Rattle.std.proofs.Math.Path.{subst}
use mathlib.Core.List.{List, [], ◌∷◌, ◌++◌}
use Rattle.std.proofs.Math.Dec.{T, leb, eqb_refl}
use Rattle.numbers.specs.Fixed.{span_limit}
use Rattle.calculus.specs.Model.{Model, zero_model, most_vars, most_degree, between, sound}
use Rattle.calculus.specs.Refusal.{done}
use Rattle.calculus.specs.Tests.{vars_sound, order_sound, constant_sound}
use Rattle.calculus.specs.Book.{Step, input, constant, variable, negate, add, subtract, multiply, substitute}
use Rattle.calculus.specs.Book.{sweep, quotient, antiderivative, Book, most_models, limits_sound, model_sound}
use Rattle.calculus.specs.Book.{step_sound, model_of, result_of, run_step, run_steps, Summary, summary, run_sound}
use Rattle.calculus_laws.specs.TestLaws.{and_left, and_right, both}
use Rattle.calculus_laws.specs.RefusalLaws.{IfAccepted, holds, IfDone, is_done, if_done, followed_done, placed}
use Rattle.calculus.specs.Refusal.{all_from}
use Rattle.calculus_laws.specs.SoundLaws as S
use Rattle.calculus_laws.specs.SoundLaws.{Sound, sound_parts, parts_sound, zero_sound, negate_sound, add_sound}
use Rattle.calculus_laws.specs.SoundLaws.{subtract_sound, multiply_sound, substitute_sound, sweep_sound}
use Rattle.calculus_laws.specs.SoundLaws.{quotient_sound, antiderivative_sound}
use Rattle.calculus_laws.specs.EachLaws.{All, nil, each_snoc, each_at, each_last}
use Rattle.calculus_laws.specs.BookLaws.{Passes, model_passes, model_vars, between_low, between_high}
use Rattle.calculus_laws.specs.BookLaws.{variable_inside, Ran}
use Rattle.calculus_laws.specs.BookLaws.{sound_ran, next_number}

module _ (b : Book) (p : Passes b) where
  -- sound, of the book's variables and order
  abbrev pub Good : Model → Type 0
  Good = Sound b.vars b.order

  pub vars_pass : T (vars_sound b.vars)
  unfolding limits_sound
  vars_pass = and_left (vars_sound b.vars) _ (and_left (vars_sound b.vars && order_sound b.order) _
      (and_left (vars_sound b.vars && order_sound b.order && leb (length b.models) most_models) _ p.limits))

  order_pass : T (between 1 most_degree b.order)
  unfolding limits_sound order_sound
  order_pass = and_right (vars_sound b.vars) _ (and_left (vars_sound b.vars && order_sound b.order) _
      (and_left (vars_sound b.vars && order_sound b.order && leb (length b.models) most_models) _ p.limits))

  order_pos : 1 ≤ b.order
  order_pos = between_low 1 most_degree b.order order_pass

  pub order_high : b.order ≤ most_degree
  order_high = between_high 1 most_degree b.order order_pass

  pub operand : {results : List Model} → All Good results → (a : ℕ) → Good (result_of b results a)
  unfolding result_of
  operand g a = each_at (λ m k. Good k) (zero_model b.vars) (zero_model b.vars)
      (zero_sound b.vars b.order) g a

  input_good : (a : ℕ) → a < length b.models → Good (model_of b a)
  input_good a h = subst (λ k. Sound k b.order (model_of b a)) (model_vars b _ (model_passes b p a h))
      (sound_parts b.order (model_of b a) (passed (model_passes b p a h)))
    where
      passed : T (model_sound b (model_of b a)) → T (sound b.order (model_of b a))
      passed t = unfold model_sound in and_right (eqb (model_of b a).vars b.vars) _ t

  -- so each step gives a good result from good ones
  pub step_good : {results : List Model} (i : ℕ) (s : Step) → T (step_sound b i s) → All Good results
      → IfAccepted Good (run_step b (result_of b results) s)
  unfolding run_step step_sound constant_sound
  step_good i (input a) t g = holds (input_good a (ltb→lt a (length b.models) t))
  step_good i (constant c) t g = holds (S.constant_sound b.vars b.order c (leb→le (nat_abs c) span_limit t))
  step_good i (variable v) t g = holds (S.variable_sound b.vars b.order v order_pos)
  step_good i (negate a) t g = holds (negate_sound b.vars b.order _ (operand g a))
  step_good i (add a c) t g = add_sound b.vars b.order _ _ (operand g a).0 (operand g c).0
  step_good i (subtract a c) t g = subtract_sound b.vars b.order _ _ (operand g a).0 (operand g c).0
  step_good i (multiply a c) t g = multiply_sound b.vars b.order _ _ (operand g a).0 (operand g c).0
  step_good i (substitute a c v) t g = substitute_sound b.vars b.order v _ _ (operand g a).0 (operand g c).0
  step_good i (sweep a c) t g = holds (sweep_sound b.vars b.order (nat_abs c) _ (operand g a))
  step_good i (quotient a c h w) t g = quotient_sound b.vars b.order _ _ _ _ (operand g h).0
  step_good i (antiderivative a v) t g = holds (antiderivative_sound b.vars b.order v
      (variable_inside b.vars v (and_right (ltb a i) _ t)) _ (operand g a))

  -- every result so far is good, and so is every one to come
  pub run_good : (l : List Step) (results : List Model) → T (all_from (length results) (step_sound b) l)
      → All Good results
      → IfDone (All Good) (run_steps b results l)
  unfolding run_steps all_from
  run_good [] results h g = is_done g
  run_good (s ∷ l) results h g = followed_done
      (placed (length results) (step_good (length results) s (and_left (step_sound b (length results) s) _ h) g))
      (λ m hm. run_good l (results ++ (m ∷ []))
      (rw (next_number results m) (and_right (step_sound b (length results) s) _ h))
      (each_snoc (λ m k. Good k) g hm))

  -- the result passes the test of a model of the book's variables and order
  pub result_sound : (s : Summary) → run_sound b ≡ done s → T (model_sound b s.model)
  unfolding model_sound
  result_sound s h = both (eqb s.model.vars b.vars) _ (rw good.0.vars (eqb_refl b.vars))
      (parts_sound b.order s.model
      (subst (λ k. T (between 1 most_vars k)) (sym good.0.vars) (unfold vars_sound in vars_pass))
      (subst (λ k. Sound k b.order s.model) (sym good.0.vars) good))
    where
      ran : Ran b s
      ran = sound_ran b s h

      good : Good s.model
      good = unfold summary in subst (λ (t : Summary). Good t.model) ran.is_summary
          (each_last (λ m k. Good k) (zero_model b.vars) (zero_model b.vars) (zero_sound b.vars b.order)
          (if_done (run_good b.steps [] p.steps nil) ran.ran))
