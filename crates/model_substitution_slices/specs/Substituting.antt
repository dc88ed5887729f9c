-- What a substitution asks.
use Rattle.std.specs.Prelude.{◌≡◌, true, List, ℕ, ◌≤◌, T, ℤ}
use Rattle.calculus.specs.Model.{most_degree, sound}
use Rattle.calculus.specs.Operations.{range_in_box}
use Rattle.model_types.specs.declared.Model.{Model}
use Rattle.model_types.specs.ModelStruct.{view}
use Rattle.model_slices.specs.HeldModels.{held, Room}

-- two models in the same variables, sound for order d, and one of the variables
pub record Substitution (d i : ℕ) (f g : Model) : Type 0 where
  pub order : d ≤ most_degree
  pub model : T (sound d (view f))
  pub inner : T (sound d (view g))
  pub vars : f.n ≡ g.n
  pub first : 1 ≤ i
  pub last : i ≤ f.n

-- the same of two models that lie in slices, where the range of the second lies in the box
pub record SubstitutionOf (d i n count radius : ℕ) (ks : List ℕ) (cs : List ℤ) (count₂ radius₂ : ℕ) (ks₂ : List ℕ)
    (cs₂ : List ℤ) : Type 0
  where
    pub first_room : Room ks cs
    pub second_room : Room ks₂ cs₂
    pub models : Substitution d i (held n count radius ks cs) (held n count₂ radius₂ ks₂ cs₂)
    pub in_box : range_in_box (view (held n count₂ radius₂ ks₂ cs₂)) ≡ true
