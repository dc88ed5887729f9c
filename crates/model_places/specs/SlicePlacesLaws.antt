-- A model in slices that have all places which its count names: its list, and the models that it is equal to.
use Rattle.std.specs.Prelude.{◌≡◌, refl, ℕ, zero, suc, ◌≤◌, ◌<◌, T, ℤ, pos, length, take}
use Rattle.std.proofs.Common.{sym, ◌∙◌, subst, arith}
use Rattle.std.proofs.Math.Path.{ap}
use mathlib.Core.List.{List, [], ◌∷◌, map}
use Rattle.std.proofs.Math.ListN.{get_or, get_or-append}
use Rattle.std.proofs.Math.Seq.{get_or-take}
use Rattle.calculus.specs.Model.{most_degree, most_terms, sound}
use Rattle.model_types.specs.declared.Term.{Term}
use Rattle.model_types.specs.Arrays.{padded}
use Rattle.model_types.specs.ArrayLaws.{length_padded, take_padded}
use Rattle.model_types.specs.ModelStruct.{zero_term, view_term, view, pad, pack, paired, listed, of_terms}
use Rattle.model_types.specs.ModelStructLaws.{view_is, pack_view}
use Rattle.model_types.specs.PairedLaws.{paired_of}
use Rattle.model_limits.specs.model_slices.HandedModels.{terms_of, handed}
use Rattle.model_limits.specs.model_slices.HandedModelsLaws.{length_terms, terms_paired, taken_view}
use Rattle.model_limits.specs.model_slices.HeldModels.{held, Room}
use Rattle.model_limits.specs.model_slices.HeldModelsLaws.{pair}
use Rattle.model_places.specs.SlicePlaces.{Places}

-- slices of 64 places have those that a count names
pub room_places : {count : ℕ} {ks : List ℕ} {cs : List ℤ} → Room ks cs → count ≤ most_terms → Places count ks cs
unfolding most_terms
room_places r h = record { keys = omega (arith, r.keys); coefficients = omega (arith, r.coefficients) }

-- the term at a place that both slices have
either_at : (ks : List ℕ) (cs : List ℤ) (i : ℕ) → i < length ks → i < length cs
    → get_or (paired ks cs) i zero_term ≡ pair (get_or ks i 0) (get_or cs i (pos 0))
unfolding paired
either_at [] cs i h l = absurd (omega arith)
either_at (k ∷ ks) [] i h l = absurd (omega arith)
either_at (k ∷ ks) (c ∷ cs) zero h l = refl
either_at (k ∷ ks) (c ∷ cs) (suc i) h l = either_at ks cs i (omega arith) (omega arith)

module _ (n count radius : ℕ) (ks : List ℕ) (cs : List ℤ) (p : Places count ks cs) where
  all_terms : length (terms_of count ks cs) ≡ count
  all_terms = length_terms count ks cs p.keys p.coefficients

  places_listed : listed (held n count radius ks cs) ≡ pad (terms_of count ks cs)
  unfolding held
  places_listed = paired_of (pad (terms_of count ks cs))

  pub places_long : count ≤ most_terms → length (listed (held n count radius ks cs)) ≡ most_terms
  places_long few = ap length places_listed
      ∙ length_padded zero_term most_terms (terms_of count ks cs) (omega (arith, all_terms))

  pub places_at : (i : ℕ) → i < count
      → get_or (listed (held n count radius ks cs)) i zero_term ≡ pair (get_or ks i 0) (get_or cs i (pos 0))
  unfolding padded
  places_at i h =
      ap (λ (l : List Term). get_or l i zero_term) places_listed
      ∙ get_or-append (terms_of count ks cs) _ zero_term i (omega (arith, all_terms))
      ∙ ap (λ (l : List Term). get_or l i zero_term) (terms_paired count ks cs)
      ∙ get_or-take count (paired ks cs) i zero_term h
      ∙ either_at ks cs i (omega (arith, p.keys)) (omega (arith, p.coefficients))

  -- it is the model that is handed over
  pub places_view : count ≤ most_terms → view (held n count radius ks cs) ≡ view (handed n count radius ks cs)
  unfolding held
  places_view few = taken_view n count radius count ks cs (omega (arith, p.keys, p.coefficients))

  -- where that is sound
  pub places_sound : count ≤ most_terms → (d : ℕ) → T (sound d (view (handed n count radius ks cs)))
      → T (sound d (view (held n count radius ks cs)))
  places_sound few d h = subst (λ m. T (sound d m)) (sym (places_view few)) h

  first_terms : take count (listed (held n count radius ks cs)) ≡ terms_of count ks cs
  first_terms = ap (take count) places_listed ∙ take_padded zero_term most_terms (terms_of count ks cs) count all_terms

  -- its terms are those of the slices
  pub places_terms : count ≤ most_terms → view (held n count radius ks cs)
      ≡ record { vars = n; radius = radius; terms = map (view_term n) (terms_of count ks cs) }
  unfolding held
  places_terms few = view_is (held n count radius ks cs) (omega (arith, places_long few))
      ∙ ap (λ (l : List Term). record { vars = n; radius = radius; terms = map (view_term n) l }) first_terms

  -- a sound one is its own struct
  pub places_packed : count ≤ most_terms → (d : ℕ) → d ≤ most_degree → T (sound d (view (held n count radius ks cs)))
      → pack (view (held n count radius ks cs)) ≡ held n count radius ks cs
  unfolding held
  places_packed few d o h = pack_view d (held n count radius ks cs) o h (omega (arith, places_long few))
      ∙ ap (λ (l : List Term). of_terms n count radius (pad l)) first_terms
