-- Lists that one value fills: what stands in them, and in a list that they come after.
use Rattle.std.specs.Prelude.{◌≡◌, refl, List, [], ◌∷◌, ◌++◌, ℕ, zero, suc, get_or, replicate}

-- after what is there the value changes nothing
pub filled_after : {A : Type 0} (z : A) (l : List A) (k i : ℕ) → get_or (l ++ replicate k z) i z ≡ get_or l i z
filled_after z [] zero i = refl
filled_after z [] (suc k) zero = refl
filled_after z [] (suc k) (suc i) = filled_after z [] k i
filled_after z (y ∷ l) k zero = refl
filled_after z (y ∷ l) k (suc i) = filled_after z l k i

-- at every place, also past the last, there is the value
pub filled_at : {A : Type 0} (z : A) (k i : ℕ) → get_or (replicate k z) i z ≡ z
filled_at z k i = filled_after z [] k i
