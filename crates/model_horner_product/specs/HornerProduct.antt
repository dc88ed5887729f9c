-- A product in Horner's rule, of models that lie in slices: what it asks, and what it leaves.
use Rattle.std.specs.Prelude.{◌≡◌, List, ℕ, ℤ}
use Rattle.std.specs.Prelude.{Ok}
use Rattle.model_types.specs.declared.Accounted.{Accounted}
use Rattle.model_slices.specs.declared.Kept.{Kept}
use Rattle.model_slices.specs.HeldModels.{held, Room}
use Rattle.product_answer.specs.ProductFactors.{Factors}

-- two factors in n variables
pub record FactorsOf (d n c e : ℕ) (ks : List ℕ) (cs : List ℤ) (count radius : ℕ) (ks₂ : List ℕ)
    (cs₂ : List ℤ) : Type 0
  where
    pub first_room : Room ks cs
    pub second_room : Room ks₂ cs₂
    pub factors : Factors d (held n c e ks cs) (held n count radius ks₂ cs₂)

-- an answer with its shares, of which the terms lie in slices: unless it is refused these hold its model
pub record KeptIn (n : ℕ) (k : Kept) (ks : List ℕ) (cs : List ℤ) (a : Accounted) : Type 0 where
  pub verdict : k.verdict ≡ a.answer.verdict
  pub shares : k.shares ≡ a.shares
  pub model : k.verdict ≡ Ok tt → held n k.count k.radius ks cs ≡ a.answer.model
