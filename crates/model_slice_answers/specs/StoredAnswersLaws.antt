-- What is stored of an accepted answer and of a refused one.
use Rattle.std.specs.Prelude.{◌≡◌, refl, List, [], ◌∷◌, ℕ, ℤ, pos, take, replicate}
use Rattle.std.proofs.Common.{sym, ◌∙◌, subst, arith, take_all}
use Rattle.std.proofs.Math.Path.{ap}
use Rattle.calculus.specs.Model.{most_terms, zero_model}
use Rattle.calculus.specs.Refusal.{number, stopped}
use Rattle.model_types.specs.declared.Answer.{Answer}
use Rattle.model_types.specs.declared.Refusal.{Refusal}
use Rattle.std.specs.Prelude.{Ok}
use Rattle.model_types.specs.Arrays.{padded}
use Rattle.model_types.specs.ModelStruct.{pack, answer, cause, verdict_number, verdict_place}
use Rattle.model_types.specs.ModelStructLaws.{refusal_cause}
use Rattle.model_slices.specs.HandedModels.{over, stored_keys, stored_coefficients, stored_numbers}
use Rattle.model_slices.specs.HeldModels.{Room}
use Rattle.model_limits.specs.declared.Left.{Left}
use Rattle.model_places.specs.LeftModels.{left_model, unless_refused, left_answer}
use Rattle.model_slice_answers.specs.StoredAnswers.{Stored}

-- another answer that is the same
pub stored_same : {a b : Answer} {x : ℕ} {ks ks₂ ns ns₂ : List ℕ} {cs cs₂ : List ℤ} → a ≡ b
    → Stored a x ks cs ns ks₂ cs₂ ns₂ → Stored b x ks cs ns ks₂ cs₂ ns₂
stored_same {x = x} {ks = ks} {ks₂ = ks₂} {ns = ns} {ns₂ = ns₂} {cs = cs} {cs₂ = cs₂} e s =
    subst (λ a. Stored a x ks cs ns ks₂ cs₂ ns₂) e s

accepted_is : (n : ℕ) (l : Left) (kept : List ℕ) (rest : List ℤ) → l.verdict ≡ Ok tt
    → left_answer n l kept rest ≡ record { model = left_model n l kept rest; verdict = Ok tt }
unfolding left_answer unless_refused
accepted_is n l kept rest e = rw e

module _ {ks ks₂ ns ns₂ : List ℕ} {cs cs₂ : List ℤ} where
  pub stored_refused : (r : Refusal) (i : ℕ) {x : ℕ} → x ≡ number (cause r)
      → ks₂ ≡ over (replicate most_terms 0) ks → cs₂ ≡ over (replicate most_terms (pos 0)) cs
      → ns₂ ≡ over (i ∷ 1 ∷ 0 ∷ 0 ∷ []) ns
      → Stored (answer (stopped (cause r) i)) x ks cs ns ks₂ cs₂ ns₂
  unfolding answer pack zero_model padded most_terms stored_keys stored_coefficients stored_numbers verdict_number
      verdict_place
  stored_refused r i x k c n = record {
    number = x ∙ ap (λ q. number (cause q)) (sym (refusal_cause r));
    keys = k;
    coefficients = c;
    numbers = n;
  }

  module _ (n : ℕ) (l : Left) (kept : List ℕ) (rest : List ℤ) where
    whole_stored : Room kept rest → ks₂ ≡ over (take most_terms kept) ks → cs₂ ≡ over (take most_terms rest) cs
        → ns₂ ≡ over (0 ∷ n ∷ l.count ∷ l.radius ∷ []) ns
        → Stored (record { model = left_model n l kept rest; verdict = Ok tt }) 0 ks cs ns ks₂ cs₂ ns₂
    unfolding most_terms stored_keys stored_coefficients stored_numbers verdict_number verdict_place
    whole_stored w k c m = record {
      number = refl;
      keys = k ∙ ap (λ r. over r ks) (take_all 64 kept (omega (arith, w.keys)));
      coefficients = c ∙ ap (λ r. over r cs) (take_all 64 rest (omega (arith, w.coefficients)));
      numbers = m;
    }

    pub left_stored : Room kept rest → l.verdict ≡ Ok tt → ks₂ ≡ over (take most_terms kept) ks
        → cs₂ ≡ over (take most_terms rest) cs → ns₂ ≡ over (0 ∷ n ∷ l.count ∷ l.radius ∷ []) ns
        → Stored (left_answer n l kept rest) 0 ks cs ns ks₂ cs₂ ns₂
    left_stored w e k c m = stored_same (sym (accepted_is n l kept rest e)) (whole_stored w k c m)
