-- The places of a model in a slice: zeros after its terms.
use Rattle.std.specs.Prelude.{List, ◌++◌, ℕ, ◌-◌, take, replicate}
use Rattle.model_slices.specs.HandedModels.{over}

-- the places from some on and before others hold zeros, all others what they held
unfoldable pub zeroed : {A : Type 0} → (zeros : A) (from before : ℕ) → List A → List A
zeroed zeros from before l = over (take from l ++ replicate (before - from) zeros) l
