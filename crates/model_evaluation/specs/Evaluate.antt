-- What an evaluation asks, and each of its steps.
use Rattle.std.specs.Prelude.{◌≡◌, List, ℕ, ◌≤◌, T, ℤ, nat_abs, take}
use Rattle.numbers.specs.Fixed.{U}
use Rattle.calculus.specs.Model as C
use Rattle.calculus.specs.Model.{most_degree, sound}
use Rattle.calculus.specs.Refusal as R
use Rattle.calculus.specs.Refusal.{◌then◌, at_place}
use Rattle.calculus.specs.Operations.{constant, multiply, add, substitute}
use Rattle.calculus.specs.Tests.{all_in_unit}
use Rattle.model_types.specs.declared.Model.{Model}
use Rattle.model_types.specs.ModelStruct.{view, answer}
use Rattle.model_limits.specs.declared.Left.{Left}
use Rattle.model_slices.specs.HeldModels.{held, Room}
use Rattle.model_limits.specs.Limits.{LeftIn}

-- a sound model, and a coordinate from -U to U for each of its variables
pub record Evaluation (m : Model) (xs : List ℤ) : Type 0 where
  pub model : T (sound most_degree (view m))
  pub coordinates : T (all_in_unit (take m.n xs))

-- a sound model, one of its variables, and a coordinate from -U to U
pub record Putting (i : ℕ) (X : ℤ) (f : Model) : Type 0 where
  pub model : T (sound most_degree (view f))
  pub first : 1 ≤ i
  pub last : i ≤ f.n
  pub small : nat_abs X ≤ U

-- an iteration of Horner's rule: h times the constant X in n variables, then q added
unfoldable pub put_iteration : (n : ℕ) (X : ℤ) (h q : C.Model) → R.Answer C.Model
put_iteration n X h q = multiply most_degree h (constant n X) then (λ p. add p q)

-- two sound models in the same variables, and a coordinate from -U to U
pub record Iterating (X : ℤ) (h q : Model) : Type 0 where
  pub model : T (sound most_degree (view h))
  pub next : T (sound most_degree (view q))
  pub vars : h.n ≡ q.n
  pub small : nat_abs X ≤ U

-- such an iteration over models that lie in slices, radius 0 for the second
pub record IterationOf (X : ℤ) (c radius : ℕ) (ks : List ℕ) (cs : List ℤ) (d : ℕ) (ks₂ : List ℕ)
    (cs₂ : List ℤ) : Type 0
  where
    pub vars : ℕ
    pub first_room : Room ks cs
    pub second_room : Room ks₂ cs₂
    pub iterating : Iterating X (held vars c radius ks cs) (held vars d 0 ks₂ cs₂)

-- what such an iteration leaves in two slices
abbrev pub IteratedIn : (X : ℤ) (c radius : ℕ) → List ℕ → List ℤ → (d : ℕ) → List ℕ → List ℤ → Left → List ℕ → List ℤ
    → Type 0
IteratedIn X c radius ks cs d ks₂ cs₂ r ks₃ cs₃ = (w : IterationOf X c radius ks cs d ks₂ cs₂)
    → LeftIn w.vars r ks₃ cs₃ (answer (at_place 0
    (put_iteration w.vars X (view (held w.vars c radius ks cs)) (view (held w.vars d 0 ks₂ cs₂)))))

-- a sound model that lies in slices, one of its variables, and a coordinate from -U to U
pub record PutOf (i : ℕ) (X : ℤ) (count radius : ℕ) (ks : List ℕ) (cs : List ℤ) : Type 0 where
  pub vars : ℕ
  pub room : Room ks cs
  pub putting : Putting i X (held vars count radius ks cs)

-- what putting it in leaves in two slices
abbrev pub PutIn : (i : ℕ) (X : ℤ) (count radius : ℕ) → List ℕ → List ℤ → Left → List ℕ → List ℤ → Type 0
PutIn i X count radius ks cs r ks₂ cs₂ = (w : PutOf i X count radius ks cs)
    → LeftIn w.vars r ks₂ cs₂ (answer (at_place 0
    (substitute most_degree i (view (held w.vars count radius ks cs)) (constant w.vars X))))
