-- What the slices hold once an answer in arrays is stored.
use Rattle.std.specs.Prelude.{◌≡◌, List, [], ◌∷◌, ℕ, ℤ}
use Rattle.calculus.specs.Refusal.{number}
use Rattle.model_types.specs.declared.Refusal.{Refusal}
use Rattle.std.specs.Prelude.{Ok, Err}
use Rattle.model_types.specs.ModelStruct.{refused_at}
use Rattle.model_types.specs.ModelStruct.{cause, verdict_number, verdict_place}
use Rattle.model_slices.specs.HandedModels.{over, stored_keys, stored_coefficients, stored_numbers}
use Rattle.c_calls.specs.CallCodes.{called_state, stored_answer}
use Rattle.model_slices.specs.declared.Kept.{Kept}
use Rattle.model.specs.OperationContracts.{kept_model, kept_accounted, KeptReady}
use Rattle.model.specs.OperationLaws.{kept_vars, kept_counted, kept_radius, refused_vars, refused_count}
use Rattle.model.specs.OperationLaws.{refused_radius}

module _ (n : ℕ) (k : Kept) (kept : List ℕ) (sums : List ℤ) (ks ks' : List ℕ) (cs cs' : List ℤ) (ns ns' : List ℕ)
    (p : ks' ≡ stored_keys (kept_model n k kept sums) ks)
    (q : cs' ≡ stored_coefficients (kept_model n k kept sums) cs) where
  pub stored_accepted : KeptReady k kept sums → k.verdict ≡ Ok tt
      → ns' ≡ over (0 ∷ n ∷ k.count ∷ k.radius ∷ []) ns
      → called_state 0 ks' cs' ns' ≡ stored_answer (kept_accounted n k kept sums).answer ks cs ns
  unfolding stored_answer stored_numbers kept_accounted verdict_number verdict_place
  stored_accepted h e t = rw (
    p,
    q,
    t,
    kept_vars n k kept sums h e,
    kept_counted n k kept sums h e,
    kept_radius n k kept sums h e,
    e,
  )

  pub stored_refused : (r : Refusal) (i x : ℕ) → k.verdict ≡ Err (refused_at r i) → x ≡ number (cause r)
      → ns' ≡ over (i ∷ 1 ∷ 0 ∷ 0 ∷ []) ns
      → called_state x ks' cs' ns' ≡ stored_answer (kept_accounted n k kept sums).answer ks cs ns
  unfolding stored_answer stored_numbers kept_accounted verdict_number verdict_place
  stored_refused r i x e z t = rw (
    z,
    p,
    q,
    t,
    refused_vars n k kept sums r i e,
    refused_count n k kept sums r i e,
    refused_radius n k kept sums r i e,
    e,
  )
