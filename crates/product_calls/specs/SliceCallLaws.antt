-- The call `multiply` on models in slices: what its tests say of them, and what it answers.
use Rattle.std.specs.Prelude.{◌≡◌, refl, true, List, ℕ, ◌≤◌, ℤ, length}
use Rattle.std.proofs.Common.{sym, ◌∙◌, arith}
use Rattle.std.proofs.Math.Path.{ap, subst}
use Rattle.std.proofs.Math.Dec.{T}
use Rattle.calculus.specs.Model as C
use Rattle.calculus.specs.Model.{sound}
use Rattle.calculus.specs.Refusal.{at_place}
use Rattle.calculus.specs.Operations.{multiply}
use Rattle.calculus.specs.Calls.{call_multiply}
use Rattle.calculus.specs.Shares as S
use Rattle.model_types.specs.declared.Accounted.{Accounted}
use Rattle.model_types.specs.declared.Model.{Model}
use Rattle.model_types.specs.declared.Refusal.{Refusal}
use Rattle.model_types.specs.declared.Shares.{Shares}
use Rattle.model_types.specs.ModelStruct.{Verdict}
use Rattle.std.specs.Prelude.{Ok, Err}
use Rattle.model_types.specs.ModelStruct.{refused_at}
use Rattle.model_types.specs.ModelStruct.{view, verdict, answer}
use Rattle.model_types.specs.ModelStructLaws.{refusal_cause}
use Rattle.model_types.specs.SharesStruct.{accounted}
use Rattle.model_slices.specs.HandedModels.{handed, borrowed}
use Rattle.model_call_tests.specs.Admission.{ordered}
use Rattle.model_call_tests.specs.AdmissionLaws.{ordered_passed, goes_on, is_refused}
use Rattle.model_slice_tests.specs.SliceTestLaws.{slices_places}
use Rattle.product_answer.specs.ProductFactors.{Factors}
use Rattle.product_calls.specs.MultiplyCallLaws.{multiply_is}
use Rattle.model_slices.specs.declared.Kept.{Kept}
use Rattle.product_answer.specs.KeptProduct.{model_unless, kept_model, kept_accounted, KeptReady}

-- the answer of a refused call: no terms
abbrev refused_kept : Shares → Refusal → ℕ → Kept
refused_kept s r i = record { count = 0; radius = 0; shares = s; verdict = Err (refused_at r i) }

module _ (d n₁ c₁ e₁ : ℕ) (ks₁ : List ℕ) (cs₁ : List ℤ) (n₂ c₂ e₂ : ℕ) (ks₂ : List ℕ) (cs₂ : List ℤ) where
  abbrev first : Model
  first = handed n₁ c₁ e₁ ks₁ cs₁

  abbrev second : Model
  second = handed n₂ c₂ e₂ ks₂ cs₂

  -- ---- the tests have passed
  module _ (passed : verdict (ordered d (view first) (view second)) ≡ Ok tt) where
    same : n₁ ≡ n₂
    unfolding view handed
    same = (ordered_passed d _ _ passed).models.vars

    pub slices_factors : Factors d first (handed n₁ c₂ e₂ ks₂ cs₂)
    unfolding handed
    slices_factors =
        let p = ordered_passed d _ _ passed in
        record {
          order = p.order;
          first = p.models.first;
          second = subst (λ n. T (sound d (view (handed n c₂ e₂ ks₂ cs₂)))) (sym same) p.models.second;
          vars = refl;
        }

    -- the slices have all places
    pub slices_long : borrowed c₁ (length ks₁) (length cs₁) ≡ true → borrowed c₂ (length ks₂) (length cs₂) ≡ true
        → ((c₁ ≤ length ks₁) × (c₁ ≤ length cs₁)) × ((c₂ ≤ length ks₂) × (c₂ ≤ length cs₂))
    slices_long l m =
        let p = ordered_passed d _ _ passed in
        (slices_places d n₁ c₁ e₁ ks₁ cs₁ l p.models.first, slices_places d n₂ c₂ e₂ ks₂ cs₂ m p.models.second)

    -- the product is the answer
    pub slices_multiplied : (k : Kept) (kept : List ℕ) (sums : List ℤ) (s : C.Model → S.Shares)
        → kept_accounted n₁ k kept sums
        ≡ accounted (multiply d (view first) (view (handed n₁ c₂ e₂ ks₂ cs₂))) s
        → (kept_accounted n₁ k kept sums).answer ≡ answer (call_multiply d (view first) (view second))
    unfolding accounted
    slices_multiplied k kept sums s e =
        ap (λ (a : Accounted). a.answer) e
        ∙ ap (λ n. answer (at_place 0 (multiply d (view first) (view (handed n c₂ e₂ ks₂ cs₂))))) same
        ∙ ap answer (sym (multiply_is _ _ d ∙ goes_on _ _ passed))

  -- ---- they have not
  pub slices_refused : (s : Shares) (kept : List ℕ) (sums : List ℤ) (r : Refusal) (i : ℕ)
      → verdict (ordered d (view first) (view second)) ≡ Err (refused_at r i)
      → (kept_accounted n₁ (refused_kept s r i) kept sums).answer
      ≡ answer (call_multiply d (view first) (view second))
  unfolding kept_accounted kept_model model_unless answer
  slices_refused s kept sums r i t =
      rw (
        multiply_is (view first) (view second) d,
        is_refused _ (at_place 0 (multiply d (view first) (view second))) r i t,
        refusal_cause r,
      )

-- nothing of a refused one is packed
pub slices_unready : (s : Shares) (kept : List ℕ) (sums : List ℤ) (r : Refusal) (i : ℕ)
    → KeptReady (refused_kept s r i) kept sums
slices_unready s kept sums r i = record {
  ready = λ (a : ◌≡◌ {A = Verdict} (Err (refused_at r i)) (Ok tt)).
      let z : ◌≡◌ {A = ℕ} 0 1 = cc in absurd (omega arith);
}
