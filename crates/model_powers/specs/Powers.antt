-- What the powers of a variable are asked of.
use Rattle.std.specs.Prelude.{◌≡◌, List, ℕ, ◌+◌, ◌≤◌, ◌<◌, T, ℤ, get_or}
use Rattle.calculus.specs.Model.{most_degree, sound}
use Rattle.model_keys.specs.Keys.{key_exponent}
use Rattle.model_types.specs.declared.Model.{Model}
use Rattle.model_types.specs.ModelStruct.{view}
use Rattle.model_slices.specs.HeldModels.{held, Room}
use Rattle.model_powers.specs.declared.Powers.{Powers}

-- a sound model and one of its variables
pub record InVariable (i : ℕ) (f : Model) : Type 0 where
  pub model : T (sound most_degree (view f))
  pub first : 1 ≤ i
  pub last : i ≤ f.n

-- ---- in slices
-- keys of a sound model, and one of its variables
pub record KeysOf (i count : ℕ) (ks : List ℕ) : Type 0 where
  pub vars : ℕ
  pub radius : ℕ
  pub coefficients : List ℤ
  pub room : Room ks coefficients
  pub variable : InVariable i (held vars count radius ks coefficients)

-- a sound model, and one of its variables
pub record PartOf (i count : ℕ) (ks : List ℕ) (cs : List ℤ) : Type 0 where
  pub vars : ℕ
  pub radius : ℕ
  pub room : Room ks cs
  pub variable : InVariable i (held vars count radius ks cs)

-- ---- chains of places
-- the exponents that a key has room for
abbrev pub exponents : ℕ
exponents = 16

-- p is the first place from j on at which a key has exponent k of variable i, or the number of keys where there is none
pub record Next (i count : ℕ) (ks : List ℕ) (k j p : ℕ) : Type 0 where
  pub above : j ≤ p
  pub within : p ≤ count
  pub between : (x : ℕ) → j ≤ x → x < p → key_exponent i (get_or ks x 0) ≡ k → ⊥
  pub here : p < count → key_exponent i (get_or ks p 0) ≡ k

-- the first place of each exponent, and after each place the next one of the same exponent
pub record Chained (i count : ℕ) (ks : List ℕ) (p : Powers) : Type 0 where
  pub low : p.largest < exponents
  pub starts : (k : ℕ) → k < exponents → Next i count ks k 0 (get_or p.first k 0)
  pub goes_on : (j : ℕ) → j < count → Next i count ks (key_exponent i (get_or ks j 0)) (j + 1) (get_or p.next j 0)
