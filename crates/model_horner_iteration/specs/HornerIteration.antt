-- An iteration of Horner's rule on models that lie in slices: what it asks, and what it leaves.
use Rattle.std.specs.Prelude.{◌≡◌, List, ℕ, T, ℤ}
use Rattle.calculus.specs.Model as C
use Rattle.calculus.specs.Model.{sound}
use Rattle.calculus.specs.Refusal as R
use Rattle.calculus.specs.Refusal.{◌then◌}
use Rattle.calculus.specs.Operations.{multiply, add}
use Rattle.model_types.specs.declared.Model.{Model}
use Rattle.model_types.specs.ModelStruct.{view}
use Rattle.model_slices.specs.HeldModels.{held, Room}
use Rattle.product_answer.specs.ProductFactors.{Factors}
-- what its product asks, and what both leave
pub use Rattle.model_horner_product.specs.HornerProduct.{FactorsOf, KeptIn}

-- h times g with order d, then q added
unfoldable pub horner_iteration : (d : ℕ) (h g q : C.Model) → R.Answer C.Model
horner_iteration d h g q = multiply d h g then (λ p. add p q)

-- two factors at order d, and what is added, sound for it and in the same variables
pub record Iteration (d : ℕ) (h g q : Model) : Type 0 where
  pub factors : Factors d h g
  pub next : T (sound d (view q))
  pub vars : h.n ≡ q.n

-- ---- in slices
-- two factors in n variables, and what is added, radius 0
pub record IterationOf (d n c e : ℕ) (ks : List ℕ) (cs : List ℤ) (count radius : ℕ) (ks₂ : List ℕ) (cs₂ : List ℤ)
    (t : ℕ) (ks₃ : List ℕ) (cs₃ : List ℤ) : Type 0
  where
    pub first_room : Room ks cs
    pub second_room : Room ks₂ cs₂
    pub third_room : Room ks₃ cs₃
    pub iteration : Iteration d (held n c e ks cs) (held n count radius ks₂ cs₂) (held n t 0 ks₃ cs₃)
