-- Sums of models in memory: what is asked of the operands, and what a merge leaves.
use Rattle.std.specs.Prelude.{◌≡◌, List, ℕ, ◌+◌, ◌≤◌, ◌<◌, T, ℤ}
use Rattle.calculus.specs.Model.{most_degree, sound}
use Rattle.calculus.specs.Refusal.{too_many_terms, stopped, at_place}
use Rattle.calculus.specs.Operations.{limited, add}
use Rattle.model_types.specs.declared.Model.{Model}
use Rattle.model_types.specs.ModelStruct.{view, answer}
use Rattle.model_slices.specs.HeldModels.{model_places, held, Room}
use Rattle.model_limits.specs.Limits.{Packed}
use Rattle.model_unary.specs.model_places.SlicePlaces.{Places}

-- two sound models in the same variables
pub record Operands (a b : Model) : Type 0 where
  pub first : T (sound most_degree (view a))
  pub second : T (sound most_degree (view b))
  pub vars : a.n ≡ b.n

-- ---- in slices
-- two sound models in the same variables
pub record SumFrom (c : ℕ) (ks : List ℕ) (cs : List ℤ) (d : ℕ) (ks₂ : List ℕ) (cs₂ : List ℤ) : Type 0 where
  pub vars : ℕ
  pub radius1 : ℕ
  pub radius2 : ℕ
  pub first_places : Places c ks cs
  pub second_places : Places d ks₂ cs₂
  pub operands : Operands (held vars c radius1 ks cs) (held vars d radius2 ks₂ cs₂)

-- the same in slices of 64 places
pub record SumOf (c : ℕ) (ks : List ℕ) (cs : List ℤ) (d : ℕ) (ks₂ : List ℕ) (cs₂ : List ℤ) : Type 0 where
  pub vars : ℕ
  pub radius1 : ℕ
  pub radius2 : ℕ
  pub first_room : Room ks cs
  pub second_room : Room ks₂ cs₂
  pub operands : Operands (held vars c radius1 ks cs) (held vars d radius2 ks₂ cs₂)

-- the terms of a + b, of which the limits are still to be tested, or more than a model has
pub record SumIn (a b : Model) (n count : ℕ) (ks : List ℕ) (cs : List ℤ) : Type 0 where
  pub packed : count ≤ model_places → Packed (held n count (a.radius + b.radius) ks cs)
  pub sum : count ≤ model_places → answer (at_place 0 (limited (view (held n count (a.radius + b.radius) ks cs))))
      ≡ answer (at_place 0 (add (view a) (view b)))
  pub many : model_places < count → answer (at_place 0 (add (view a) (view b))) ≡ answer (stopped too_many_terms 0)
