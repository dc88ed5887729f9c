-- What the tests of a call say of models that lie in slices; the tests of a sweep are that of its model, and more.
use Rattle.std.specs.Prelude.{◌≡◌, refl, Bool, true, false, List, ℕ, ◌≤◌, T, eqb, leb, ℤ, length}
use Rattle.std.proofs.Math.Path.{sym, ap}
use Rattle.std.proofs.Common.{◌∙◌, subst, eq-eqb, ne_eqb, leb-false, leb→le}
use Rattle.calculus.specs.Model.{Model, most_terms, sound}
use Rattle.calculus.specs.Refusal.{bad_step, done, require_at, ◌followed_by◌}
use Rattle.calculus.specs.Tests.{threshold_sound}
use Rattle.calculus_laws.specs.RefusalLaws.{at_followed}
use Rattle.model_types.specs.declared.Refusal.{Refusal}
use Rattle.std.specs.Prelude.{Ok, Err}
use Rattle.model_types.specs.ModelStruct.{refused_at}
use Rattle.model_types.specs.ModelStruct.{view, verdict}
use Rattle.model_types.specs.ModelStructLaws.{refusal_cause}
use Rattle.model_slices.specs.HandedModels.{handed, borrowed}
use Rattle.model_call_tests.specs.Admission.{single_model, sweeping}
use Rattle.model_call_tests.specs.AdmissionLaws.{goes_on, is_refused}
use Rattle.model_soundness.specs.SliceSoundLaws.{borrowed_places, slices_many_not}

-- ---- the slices of a sound model have all its places
module _ (d n count radius : ℕ) (ks : List ℕ) (cs : List ℤ) where
  pub slices_places : borrowed count (length ks) (length cs) ≡ true → T (sound d (view (handed n count radius ks cs)))
      → (count ≤ length ks) × (count ≤ length cs)
  slices_places h t = borrowed_places count (length ks) (length cs) h (few (leb count most_terms) refl)
    where
      few : (b : Bool) → leb count most_terms ≡ b → count ≤ most_terms
      few true e = leb→le count most_terms (subst T (sym e) tt)
      few false e = absurd (subst T (slices_many_not d n count radius ks cs (leb-false count most_terms e)) t)

-- ---- the variables of two models
pub slices_same : (n₁ c₁ e₁ n₂ c₂ e₂ : ℕ) (ks₁ ks₂ : List ℕ) (cs₁ cs₂ : List ℤ) → n₁ ≡ n₂
    → eqb (view (handed n₁ c₁ e₁ ks₁ cs₁)).vars (view (handed n₂ c₂ e₂ ks₂ cs₂)).vars ≡ true
unfolding handed view
slices_same n₁ c₁ e₁ n₂ c₂ e₂ ks₁ ks₂ cs₁ cs₂ e = eq-eqb n₁ n₂ e

pub slices_other : (n₁ c₁ e₁ n₂ c₂ e₂ : ℕ) (ks₁ ks₂ : List ℕ) (cs₁ cs₂ : List ℤ) → (n₁ ≡ n₂ → ⊥)
    → eqb (view (handed n₁ c₁ e₁ ks₁ cs₁)).vars (view (handed n₂ c₂ e₂ ks₂ cs₂)).vars ≡ false
unfolding handed view
slices_other n₁ c₁ e₁ n₂ c₂ e₂ ks₁ ks₂ cs₁ cs₂ e = ne_eqb n₁ n₂ e

-- ---- a sweep
module _ (t : ℤ) (f : Model) where
  sweeping_is : sweeping t f
      ≡ (single_model f followed_by (λ u. require_at 0 (threshold_sound t) bad_step (done tt)))
  unfolding sweeping single_model ◌followed_by◌
  sweeping_is = sym (at_followed 0 _ _ _ _)

  -- refused with its model
  pub sweeping_refused : (x : Refusal) (y : ℕ) → verdict (single_model f) ≡ Err (refused_at x y)
      → verdict (sweeping t f) ≡ Err (refused_at x y)
  unfolding verdict
  sweeping_refused x y e =
      ap verdict (sweeping_is ∙ is_refused (single_model f) _ x y e) ∙ ap (λ q. Err (refused_at q y)) (refusal_cause x)

  -- and else the threshold decides
  pub by_threshold : verdict (single_model f) ≡ Ok tt
      → sweeping t f ≡ require_at 0 (threshold_sound t) bad_step (done tt)
  by_threshold e = sweeping_is ∙ goes_on (single_model f) _ e
