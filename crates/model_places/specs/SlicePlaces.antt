-- Slices of any length in which a model lies.
use Rattle.std.specs.Prelude.{List, ℕ, ◌≤◌, ℤ, length}

-- they have all places that a count names
pub record Places (count : ℕ) (ks : List ℕ) (cs : List ℤ) : Type 0 where
  pub keys : count ≤ length ks
  pub coefficients : count ≤ length cs
