-- The passes over a model that lies in slices: each iteration is that of the pass over its struct.
use Rattle.std.specs.Prelude.{◌≡◌, List, ℤ, pos, length, get_or, set}
use Rattle.std.proofs.Common.{sym, ◌∙◌}
use Rattle.std.proofs.Math.Path.{ap, subst}
use Prim.Native.Nat.{ℕ, ◌+◌, ◌-◌, ◌≤◌, ◌<◌, max}
use Rattle.calculus.specs.Model.{most_degree, most_terms}
use Rattle.calculus.specs.Operations.{largest_exponent, part}
use Rattle.model_keys.specs.Keys.{key_exponent, key_without, Slot}
use Rattle.model_types.specs.declared.Term.{Term}
use Rattle.model_types.specs.declared.Model.{Model}
use Rattle.model_types.specs.ModelStruct.{zero_term, view, pad, pack, listed}
use Rattle.model_types.specs.ModelStructLaws.{limits}
use Rattle.model_slices.specs.HandedModels.{terms_of}
use Rattle.model_slices.specs.HeldModels.{held, Room}
use Rattle.model_slices.specs.HeldModelsLaws.{pair, held_whole, held_at, stored_more}
use Rattle.model_powers.specs.Powers.{KeysOf, PartOf}
use Rattle.model_powers.specs.PowersLaws as P

-- ---- the largest exponent
module _ {i count : ℕ} {ks : List ℕ} (w : KeysOf i count ks) where
  abbrev keyed : Model
  keyed = held w.vars count w.radius ks w.coefficients

  pub keys_few : count ≤ most_terms
  unfolding held
  keys_few = (limits most_degree keyed w.variable.model).few

  keys_whole : count ≤ length (listed keyed)
  keys_whole = held_whole w.vars count w.radius ks w.coefficients w.room keys_few

  pub keys_slot : Slot i
  keys_slot = P.slot w.variable

  pub largest_first : P.Largest i keyed 0 count
  unfolding held
  largest_first = P.largest_first w.variable keys_whole

  pub largest_iteration : {largest j more : ℕ} → P.Largest i keyed largest j → 0 < j → j - 1 < count
      → more ≡ max largest (key_exponent i (get_or ks (j - 1) 0)) → P.Largest i keyed more (j - 1)
  unfolding held
  largest_iteration {largest = largest} {j = j} l z h e = P.largest_iteration w.variable keys_whole l z h
      (e ∙ ap (λ (t : Term). max largest (key_exponent i t.key))
      (sym (held_at w.vars count w.radius ks w.coefficients w.room keys_few (j - 1) h)))

  pub largest_end : {largest j : ℕ} → P.Largest i keyed largest j → j ≤ 0
      → largest ≡ largest_exponent i (view keyed).terms
  unfolding held
  largest_end l h = P.largest_end w.variable keys_whole l h

-- ---- the terms of one power
module _ {i total : ℕ} {ks : List ℕ} {cs : List ℤ} (w : PartOf i total ks cs) where
  abbrev parted : Model
  parted = held w.vars total w.radius ks cs

  pub part_few : total ≤ most_terms
  unfolding held
  part_few = (limits most_degree parted w.variable.model).few

  part_whole : total ≤ length (listed parted)
  part_whole = held_whole w.vars total w.radius ks cs w.room part_few

  pub part_slot : Slot i
  part_slot = P.slot w.variable

  pub part_first : {k : ℕ} (ks₂ : List ℕ) (cs₂ : List ℤ) → P.Taken i parted k (pad (terms_of 0 ks₂ cs₂)) 0 0
  unfolding held terms_of
  part_first ks₂ cs₂ = P.taken_first w.variable part_whole

  module _ {k : ℕ} (ks₂ : List ℕ) (cs₂ : List ℤ) {count j : ℕ}
      (l : P.Taken i parted k (pad (terms_of count ks₂ cs₂)) count j) where
    pub part_room : j < total → count < most_terms
    unfolding held
    part_room h = P.taken_room w.variable part_whole l h

    module _ (h : j < total) where
      at : get_or (listed parted) j zero_term ≡ pair (get_or ks j 0) (get_or cs j (pos 0))
      at = held_at w.vars total w.radius ks cs w.room part_few j h

      pub part_in : Room ks₂ cs₂ → key_exponent i (get_or ks j 0) ≡ k → {x : ℕ} {z : ℤ}
          → x ≡ key_without i (get_or ks j 0) → z ≡ get_or cs j (pos 0)
          → P.Taken i parted k (pad (terms_of (count + 1) (set ks₂ count x) (set cs₂ count z))) (count + 1) (j + 1)
      unfolding held
      part_in r e {x = x} {z = z} a b =
          subst (λ o. P.Taken i parted k o (count + 1) (j + 1)) (stored_more count ks₂ cs₂ x z r (part_room h))
          (P.taken_in w.variable part_whole l h (ap (λ (t : Term). key_exponent i t.key) at ∙ e)
          (a ∙ ap (λ (t : Term). key_without i t.key) (sym at)) (b ∙ ap (λ (t : Term). t.coefficient) (sym at)))

      pub part_out : (key_exponent i (get_or ks j 0) ≡ k → ⊥)
          → P.Taken i parted k (pad (terms_of count ks₂ cs₂)) count (j + 1)
      unfolding held
      part_out e = P.taken_out w.variable part_whole l h
          (λ q. e (ap (λ (t : Term). key_exponent i t.key) (sym at) ∙ q))

    pub part_end : total ≤ j → held w.vars count 0 ks₂ cs₂ ≡ pack (part i k (view parted))
    unfolding held
    part_end h = P.taken_end w.variable part_whole l h
