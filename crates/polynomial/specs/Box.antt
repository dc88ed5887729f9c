-- The box [-1, 1]^n.
use Rattle.std.specs.Prelude.{List, [], ◌∷◌, ℕ, suc}
use Rattle.algebra.specs.Ordered.{Ordered, abs}

module _ (O : Ordered) where
  open O use {ring as R, ◌≤◌}
  open R use {Carrier, 1#}

  infix 50 ◌≤◌
  -- n coordinates, each from -1 to 1
  pub data Box : ℕ → List Carrier → Type 0 where
    none : Box 0 []
    more : {n : ℕ} {x : Carrier} {xs : List Carrier} → abs O x ≤ 1# → Box n xs → Box (suc n) (x ∷ xs)
