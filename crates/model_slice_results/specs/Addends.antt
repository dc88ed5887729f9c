-- Two models in slices that are added.
use Rattle.std.specs.Prelude.{List, ℕ, ℤ}
use Rattle.model_slices.specs.HeldModels.{held}
use Rattle.model_places.specs.SlicePlaces.{Places}
use Rattle.model_addition.specs.Addition.{Operands}

-- two sound models in n variables
pub record Addends (n c₁ e₁ : ℕ) (ks₁ : List ℕ) (cs₁ : List ℤ) (c₂ e₂ : ℕ) (ks₂ : List ℕ) (cs₂ : List ℤ) : Type 0 where
  pub first : Places c₁ ks₁ cs₁
  pub second : Places c₂ ks₂ cs₂
  pub operands : Operands (held n c₁ e₁ ks₁ cs₁) (held n c₂ e₂ ks₂ cs₂)
