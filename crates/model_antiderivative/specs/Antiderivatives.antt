-- The antiderivative of one term by its key, and what the antiderivative of a model is asked of.
use Rattle.std.specs.Prelude.{Bool, not, List, ℕ, ◌+◌, ◌%◌, ◌≤◌, T, eqb, ltb, ℤ, nat_abs}
use Rattle.numbers.specs.Division.{divided_up, nearest}
use Rattle.calculus.specs.Key.{key_degree}
use Rattle.calculus_laws.specs.SumLaws.{if_ℕ, if_ℤ}
use Rattle.calculus.specs.Model.{most_degree, sound}
use Rattle.model_types.specs.declared.Model.{Model}
use Rattle.model_types.specs.ModelStruct.{view}
use Rattle.model_keys.specs.Keys.{key_exponent}
use Rattle.model_slices.specs.HeldModels.{held}
use Rattle.model_places.specs.SlicePlaces.{Places}

-- whether its new degree is at most d
unfoldable pub key_stays : (d key : ℕ) → Bool
key_stays d key = ltb (key_degree key) d

-- its new coefficient, 0 where it is swept
unfoldable pub key_coefficient : (d i key : ℕ) → ℤ → ℤ
key_coefficient d i key c = if_ℤ (key_stays d key) (nearest c (key_exponent i key + 1))

-- what it adds to the radius by rounding: 1 where it stays and does not divide
unfoldable pub key_rounding : (d i key : ℕ) → ℤ → ℕ
key_rounding d i key c = if_ℕ (key_stays d key) (if_ℕ (not (eqb (nat_abs c % (key_exponent i key + 1)) 0)) 1)

-- and in all
unfoldable pub key_growth : (d i key : ℕ) → ℤ → ℕ
key_growth d i key c =
    key_rounding d i key c + if_ℕ (not (key_stays d key)) (divided_up (nat_abs c) (key_exponent i key + 1))

-- a sound model of order d, and one of its variables
pub record Integrand (d i : ℕ) (f : Model) : Type 0 where
  pub order : d ≤ most_degree
  pub model : T (sound d (view f))
  pub first : 1 ≤ i
  pub last : i ≤ f.n

-- the same where the model lies in slices
pub record IntegrandIn (d i count radius : ℕ) (ks : List ℕ) (cs : List ℤ) : Type 0 where
  pub vars : ℕ
  pub places : Places count ks cs
  pub integrand : Integrand d i (held vars count radius ks cs)
