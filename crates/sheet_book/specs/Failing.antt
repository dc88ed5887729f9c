-- The first of a list that fails a test.
use Rattle.std.specs.Prelude.{Bool, cond, List, [], ◌∷◌, ℕ, suc}

-- the number of the first that fails, counted from i on; if all pass, the number after the last
unfoldable pub first_failing : {A : Type 0} → ℕ → (ℕ → A → Bool) → List A → ℕ
first_failing i ok [] = i
first_failing i ok (x ∷ l) = cond (ok i x) (first_failing (suc i) ok l) i
