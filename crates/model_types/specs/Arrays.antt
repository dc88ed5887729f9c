-- Arrays with a count: the entries that are looked at, and zeros after them.
use Rattle.std.specs.Prelude.{List, [], ◌∷◌, ◌++◌, ℕ, zero, suc, ◌-◌, length, replicate}

-- the first c places of an array; beyond its end they hold zeros
unfoldable pub first_places : {A : Type 0} → (zeros : A) (c : ℕ) → List A → List A
first_places zeros zero l = []
first_places zeros (suc c) [] = zeros ∷ first_places zeros c []
first_places zeros (suc c) (x ∷ l) = x ∷ first_places zeros c l

-- an array of a size: places beyond the count hold zeros
unfoldable pub padded : {A : Type 0} → (zeros : A) (size : ℕ) → List A → List A
padded zeros size l = l ++ replicate (size - length l) zeros
