-- What a product with a constant asks of a model that lies in slices of 64 places.
use Rattle.std.specs.Prelude.{List, ℕ, ℤ}
use Rattle.model_slices.specs.HeldModels.{held, Room}
use Rattle.model_scaling.specs.Scaling.{Scalable}

-- a sound model, and a constant from -U to U
pub record ScaleOf (X : ℤ) (count radius : ℕ) (ks : List ℕ) (cs : List ℤ) : Type 0 where
  pub vars : ℕ
  pub room : Room ks cs
  pub scalable : Scalable X (held vars count radius ks cs)
