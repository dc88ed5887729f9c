-- Archimedean ordered fields, as far as the proofs need them: they divide by whole numbers from 1.
use Rattle.std.specs.Prelude.{◌≡◌, ℕ, ◌≤◌}
use Rattle.algebra.specs.Ring.{nat}
use Rattle.algebra.specs.Ordered.{Ordered}

-- an ordered ring with 1 / n for each whole number n from 1
pub record Field : Type 1 where
  pub ordered : Ordered
  -- 1 / n, for n from 1
  pub reciprocal : ℕ → ordered.ring.Carrier
  pub nat_reciprocal : (n : ℕ) → 1 ≤ n
      → ordered.ring.◌*◌ (nat ordered.ring n) (reciprocal n) ≡ ordered.ring.1#
  -- Archimedes: what is at most c / n for every n from 1 is at most 0
  pub archimedean : (x c : ordered.ring.Carrier)
      → ((n : ℕ) → 1 ≤ n → ordered.◌≤◌ x (ordered.ring.◌*◌ c (reciprocal n))) → ordered.◌≤◌ x ordered.ring.0#
