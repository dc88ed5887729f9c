-- An answer in slices: all places of its model, and its numbers.
use Rattle.std.specs.Prelude.{◌≡◌, List, ℕ, ℤ}
use Rattle.model_types.specs.declared.Answer.{Answer}
use Rattle.model_types.specs.ModelStruct.{verdict_number, verdict_place}
use Rattle.model_slices.specs.HandedModels.{stored_keys, stored_coefficients, stored_numbers}

-- the number of its refusal, and what three slices hold after it was stored over what they held
pub record Stored (a : Answer) (x : ℕ) (ks : List ℕ) (cs : List ℤ) (ns : List ℕ) (ks₂ : List ℕ) (cs₂ : List ℤ)
    (ns₂ : List ℕ) : Type 0 where
  pub number : x ≡ verdict_number a.verdict
  pub keys : ks₂ ≡ stored_keys a.model ks
  pub coefficients : cs₂ ≡ stored_coefficients a.model cs
  pub numbers : ns₂ ≡ stored_numbers (verdict_place a.verdict) a.model ns
