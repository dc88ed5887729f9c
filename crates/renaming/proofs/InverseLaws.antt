-- Renaming by a reordering and then by its inverse gives back what was there: monomials, terms, models, steps, books.
use Rattle.std.specs.Prelude.{◌≡◌, Bool, ◌&&◌, List, [], ◌∷◌, map, T, eqb, length}
use Rattle.std.proofs.Math.Path.{refl, sym, ap, ap₂}
use Rattle.std.proofs.Common.{◌∙◌, subst, eqb→eq}
use Prim.Native.Nat.{ℕ, suc}
use Rattle.std.proofs.Math.Dec.{ltb}
use Rattle.calculus.specs.Monomial.{index_of}
use Rattle.calculus.specs.Terms.{Terms, nonzero}
use Rattle.calculus.specs.Model.{Model, sound}
use Rattle.calculus.specs.Refusal.{all_from}
use Rattle.calculus.specs.Tests.{variable_sound}
use Rattle.calculus.specs.Book.{Step, input, constant, variable, negate, add, subtract, multiply, substitute, sweep}
use Rattle.calculus.specs.Book.{quotient, antiderivative, Book, model_sound, step_sound}
use Rattle.calculus_laws.specs.TestLaws.{and_left, and_right}
use Rattle.calculus_laws.specs.MonomialLaws.{index_suc}
use Rattle.calculus_laws.specs.SumLaws.{ℤ_addition}
use Rattle.calculus_laws.specs.CanonicalLaws.{at_monomial, coefficient_at}
use Rattle.calculus_laws.specs.SoundLaws.{Canonical, sound_parts}
use Rattle.calculus_laws.specs.BookLaws.{Passes, model_vars, between_low, variable_inside}
use Rattle.renaming.specs.Reordering.{Reordering, inverse, rename, rename_variable, rename_terms, rename_model}
use Rattle.renaming.specs.Reordering.{rename_step, rename_book}
use Rattle.renaming.proofs.RenamedMonomialLaws.{exponent_from, rename_unique, index_renamed}
use Rattle.renaming.specs.TermSumLaws.{sum_agree}
use Rattle.renaming.proofs.RenamedTermsLaws.{InOrder, long, sum_renamed, renamed_at, renamed_unique}
use Rattle.renaming.proofs.RenamedTermsLaws.{renamed_in_order, renamed_nonzero}
use Rattle.renaming.proofs.RenamedModelLaws.{canonical_in_order}

-- there and back, for each of a list that passes a test
pub map_there_and_back : {A B : Type 0} (f : A → B) (g : B → A) (i : ℕ) (ok : ℕ → A → Bool) (l : List A)
    → ((j : ℕ) (x : A) → T (ok j x) → g (f x) ≡ x) → T (all_from i ok l) → map g (map f l) ≡ l
unfolding all_from
map_there_and_back f g i ok [] h t = refl
map_there_and_back f g i ok (x ∷ l) h t = ap₂ ◌∷◌ (h i x (and_left (ok i x) _ t))
    (map_there_and_back f g (suc i) ok l h (and_right (ok i x) _ t))

module _ {n : ℕ} (ρ : Reordering n) where
  -- ---- monomials and variables
  pub monomial_back : (k : List ℕ) → length k ≡ n → rename (inverse ρ) (rename ρ k) ≡ k
  monomial_back k l = rename_unique (inverse ρ) (rename ρ k) k l
      (unfold inverse in (λ i h. sym (exponent_from ρ k i h)))

  pub variable_back : (v : ℕ) → T (variable_sound n v) → rename_variable (inverse ρ) (rename_variable ρ v) ≡ v
  unfolding rename_variable inverse variable_sound
  variable_back v h = ap (λ i. suc (ρ.from i)) (unfold rename_variable in index_renamed ρ v)
      ∙ ap suc (ρ.from_to (index_of v) (variable_inside n v h)) ∙ index_suc v (between_low 1 n v h)

  -- ---- terms and models
  pub terms_back : (p : Terms) → InOrder n p → T (nonzero p) → rename_terms (inverse ρ) (rename_terms ρ p) ≡ p
  terms_back p h z = sym (renamed_unique (inverse ρ) (rename_terms ρ p) (renamed_in_order ρ p h)
      (renamed_nonzero ρ p h z) p h.all_rising z coefficients)
    where
      coefficients : (k : List ℕ) → coefficient_at p k ≡ renamed_at (inverse ρ) k (rename_terms ρ p)
      coefficients k = unfold coefficient_at in
          (sum_agree ℤ_addition (λ k c. long n k) (at_monomial k)
          (λ j c. at_monomial k (rename (inverse ρ) (rename ρ j)) c)
          (λ j c t. ap (λ i. at_monomial k i c) (sym (monomial_back j (eqb→eq (length j) n t)))) p h.all_long
          ∙ sym (sum_renamed ρ p h ℤ_addition (λ j c. at_monomial k (rename (inverse ρ) j) c)))

  pub model_back : (d : ℕ) (m : Model) → Canonical n d m → rename_model (inverse ρ) (rename_model ρ m) ≡ m
  unfolding rename_model
  model_back d m c = λ i. record {
    vars = m.vars;
    radius = m.radius;
    terms = terms_back m.terms (canonical_in_order c) c.nonzero_terms i;
  }

-- ---- books
module _ (b : Book) (ρ : Reordering b.vars) where
  rules : (m : Model) → T (model_sound b m) → T (sound b.order m)
  unfolding model_sound
  rules m t = and_right (eqb m.vars b.vars) _ t

  model_there_and_back : (m : Model) → T (model_sound b m) → rename_model (inverse ρ) (rename_model ρ m) ≡ m
  model_there_and_back m t = model_back ρ b.order m
      (subst (λ k. Canonical k b.order m) (model_vars b m t) (sound_parts b.order m (rules m t)).0)

  pub step_there_and_back : (i : ℕ) (s : Step) → T (step_sound b i s)
      → rename_step (inverse ρ) (rename_step ρ s) ≡ s
  unfolding rename_step step_sound
  step_there_and_back i (input a) t = refl
  step_there_and_back i (constant value) t = refl
  step_there_and_back i (variable v) t = ap variable (variable_back ρ v t)
  step_there_and_back i (negate a) t = refl
  step_there_and_back i (add a c) t = refl
  step_there_and_back i (subtract a c) t = refl
  step_there_and_back i (multiply a c) t = refl
  step_there_and_back i (substitute a c v) t = ap (substitute a c)
      (variable_back ρ v (and_right (ltb a i && ltb c i) (variable_sound b.vars v) t))
  step_there_and_back i (sweep a value) t = refl
  step_there_and_back i (quotient a c h w) t = refl
  step_there_and_back i (antiderivative a v) t = ap (antiderivative a)
      (variable_back ρ v (and_right (ltb a i) (variable_sound b.vars v) t))

  pub book_there_and_back : Passes b → rename_book (inverse ρ) (rename_book ρ b) ≡ b
  unfolding rename_book
  book_there_and_back p = ap₂ (λ ms l. record { vars = b.vars; order = b.order; models = ms; steps = l })
      (map_there_and_back (rename_model ρ) (rename_model (inverse ρ)) 0 (λ i. model_sound b) b.models
      (λ i m t. model_there_and_back m t) p.models)
      (map_there_and_back (rename_step ρ) (rename_step (inverse ρ)) 0 (step_sound b) b.steps
      step_there_and_back p.steps)
