-- The code of a product: its call, and what a call that fits has of its models.
use Rattle.std.specs.Prelude.{◌≡◌, refl, Bool, true, false, ◌&&◌, ℕ, T, ℤ}
use Rattle.std.proofs.Common.{sym, ap, subst}
use Rattle.calculus.specs.Model.{Model}
use Rattle.calculus.specs.Calls.{call_multiply}
use Rattle.model_slices.specs.HandedModels.{borrowed}
use Rattle.c_calls.specs.CallCodes.{model_call, call_known, call_fits}

-- code 6 names the product
pub product_code : (code d i : ℕ) (v : ℤ) (f g : Model) → code ≡ 6
    → model_call code d i v f g ≡ call_multiply d f g
unfolding model_call
product_code code d i v f g e = ap (λ c. model_call c d i v f g) e

-- slices that fit have all places that the counts name
pub fits_borrowed : (code c₁ k₁ z₁ c₂ k₂ z₂ : ℕ) (room : Bool) → call_fits code c₁ k₁ z₁ c₂ k₂ z₂ room ≡ true
    → (borrowed c₁ k₁ z₁ ≡ true) × (borrowed c₂ k₂ z₂ ≡ true)
unfolding call_fits
fits_borrowed code c₁ k₁ z₁ c₂ k₂ z₂ room h =
    parts (call_known code) (borrowed c₁ k₁ z₁) (borrowed c₂ k₂ z₂) room (subst T (sym h) tt)
  where
    parts : (a b c d : Bool) → T (a && b && c && d) → (b ≡ true) × (c ≡ true)
    parts true true true d t = (refl, refl)
    parts true true false d t = absurd t
    parts true false c d t = absurd t
    parts false b c d t = absurd t
