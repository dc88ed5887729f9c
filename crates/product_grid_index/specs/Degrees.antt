-- The largest degree of wide keys.
use Rattle.std.specs.Prelude.{List, ℕ, ◌<◌, ◌≤◌, get_or}
use Rattle.model_keys.specs.Keys.{wide_degree}

-- none of the first count keys has a larger one, and it is no larger than whatever bounds them
pub record TopDegree (keys : List ℕ) (count most : ℕ) : Type 0 where
  pub each : (i : ℕ) → i < count → wide_degree (get_or keys i 0) ≤ most
  pub least : (b : ℕ) → ((i : ℕ) → i < count → wide_degree (get_or keys i 0) ≤ b) → most ≤ b
