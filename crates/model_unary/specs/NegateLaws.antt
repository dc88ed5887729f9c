-- Signs turned: one coefficient after the other, and the model that has them.
use Rattle.std.specs.Prelude.{◌≡◌, ℤ, pos, length, get_or, set, replicate}
use Rattle.std.proofs.Math.Path.{refl, sym, ap, subst}
use Rattle.std.proofs.Common.{◌∙◌, ap₂, arith, length-take-le}
use mathlib.Core.List.{List, [], ◌∷◌, map, map-append}
use Prim.Native.Nat.{ℕ, zero, suc, ◌+◌, ◌≤◌, ◌<◌}
use Rattle.std.proofs.Math.Dec.{T}
use Rattle.std.proofs.Math.IntN.{neg_ℤ}
use Rattle.std.proofs.Math.ListN.{take}
use Rattle.std.proofs.lemmas.List.{length-map}
use Rattle.calculus.specs.Key.{monomial_of}
use Rattle.calculus.specs.Terms.{Terms, term, map_coefficients}
use Rattle.calculus.specs.Model as C
use Rattle.calculus.specs.Model.{most_vars, most_degree, most_terms, between, sound}
use Rattle.calculus.specs.Operations.{negate}
use Rattle.calculus.specs.Tests.{vars_sound}
use Rattle.calculus_laws.specs.SoundLaws as S
use Rattle.calculus_laws.specs.SoundLaws.{sound_parts, parts_sound, negate_sound}
use Rattle.model_types.specs.declared.Model.{Model}
use Rattle.model_types.specs.ModelStruct.{view_term, view, pack}
use Rattle.model_types.specs.ModelStructLaws.{take_more, sound_vars}
use Rattle.model_types.specs.PairedLaws.{listed_struct}
use Rattle.model_slices.specs.HandedModels.{terms_of, over}
use Rattle.model_slices.specs.HandedModelsLaws.{over_more, filled_listed}
use Rattle.model_slices.specs.HeldModels.{held}
use Rattle.model_places.specs.SlicePlaces.{Places}
use Rattle.model_places.specs.SlicePlacesLaws.{places_terms, places_packed}
use Rattle.model_places.specs.LeftModels.{Lies, Zeros}
use Rattle.model_places.specs.LeftModelsLaws.{lies_few}

-- the first coefficients with their signs turned
abbrev pub turned : (i : ℕ) → List ℤ → List ℤ
turned i cs = map neg_ℤ (take i cs)

pub turned_more : (cs out : List ℤ) (i : ℕ) → i < length cs → i < length out
    → set (over (turned i cs) out) i (neg_ℤ (get_or cs i (pos 0))) ≡ over (turned (i + 1) cs) out
turned_more cs out i h l =
    over_more (pos 0) (turned i cs) out i _ (length-map (take i cs) neg_ℤ ∙ length-take-le i cs (omega arith)) l
    ∙ ap (λ r. over r out) (sym (ap (map neg_ℤ) (take_more cs i (pos 0) h)
    ∙ map-append neg_ℤ (take i cs) (get_or cs i (pos 0) ∷ [])))

-- with all signs turned
pub negated_sound : (d : ℕ) (f : C.Model) → T (sound d f) → T (sound d (negate f))
negated_sound d f h = parts_sound d (negate f) vars (negated (negate_sound f.vars d f (sound_parts d f h)))
  where
    vars : T (between 1 most_vars (negate f).vars)
    vars = unfold negate vars_sound in subst T (sym (sound_vars d f h)) tt

    negated : S.Sound f.vars d (negate f) → S.Sound (negate f).vars d (negate f)
    negated k = unfold negate in k

-- ---- a model in slices
turned_terms : (n c : ℕ) (ks : List ℕ) (cs : List ℤ)
    → map (view_term n) (terms_of c ks (turned c cs)) ≡ map_coefficients neg_ℤ (map (view_term n) (terms_of c ks cs))
unfolding terms_of view_term map_coefficients
turned_terms n zero ks cs = refl
turned_terms n (suc c) [] cs = refl
turned_terms n (suc c) (k ∷ ks) [] = refl
turned_terms n (suc c) (k ∷ ks) (z ∷ cs) =
    ap (λ (p : Terms). term (neg_ℤ z) (monomial_of n k) ∷ p) (turned_terms n c ks cs)

module _ (n count radius : ℕ) (ks : List ℕ) (cs : List ℤ) (p : Places count ks cs) (few : count ≤ most_terms) where
  turned_long : length (turned count cs) ≡ count
  turned_long = length-map (take count cs) neg_ℤ ∙ length-take-le count cs p.coefficients

  pub turned_places : Places count ks (turned count cs)
  turned_places = record { keys = p.keys; coefficients = omega (arith, turned_long) }

  -- with these coefficients it is the negated model
  pub turned_view : view (held n count radius ks (turned count cs)) ≡ negate (view (held n count radius ks cs))
  unfolding negate
  turned_view = places_terms n count radius ks (turned count cs) turned_places few
      ∙ ap (λ (t : Terms). record { vars = n; radius = radius; terms = t }) (turned_terms n count ks cs)
      ∙ ap negate (sym (places_terms n count radius ks cs p few))

-- in arrays of zeros it is the struct of the negated model
module _ {count radius : ℕ} {ks : List ℕ} {cs : List ℤ} (w : Lies count radius ks cs) where
  -- with these arrays
  abbrev pub struct : List ℕ → List ℤ → Model
  struct keys coefficients =
      record { n = w.vars; count = count; radius = radius; keys = keys; coefficients = coefficients }

  over_array : struct (over (take count ks) (replicate most_terms 0))
      (over (turned count cs) (replicate most_terms (pos 0)))
      ≡ pack (negate (view (held w.vars count radius ks cs)))
  unfolding held
  over_array =
      let n = w.vars in
      let few = lies_few w in
      let q = turned_places n count radius ks cs w.places few in
      let v = turned_view n count radius ks cs w.places few in
      ap (λ (l : List ℤ). struct (over (take count ks) (replicate most_terms 0))
      (over l (replicate most_terms (pos 0)))) (sym (all count cs))
      ∙ listed_struct (filled_listed count ks (turned count cs) q.keys q.coefficients) n count radius
      ∙ sym (places_packed n count radius ks (turned count cs) q few most_degree (omega arith)
      (subst (λ (m : C.Model). T (sound most_degree m)) (sym v) (negated_sound most_degree _ w.model)))
      ∙ ap pack v
    where
      all : (c : ℕ) (cs : List ℤ) → take c (turned c cs) ≡ turned c cs
      all zero cs = refl
      all (suc c) [] = refl
      all (suc c) (z ∷ cs) = ap (λ (l : List ℤ). neg_ℤ z ∷ l) (all c cs)

  pub turned_struct : {ks₂ ks₃ : List ℕ} {cs₂ cs₃ : List ℤ} → Zeros ks₂ cs₂ → ks₃ ≡ over (take count ks) ks₂
      → cs₃ ≡ over (turned count cs) cs₂ → struct ks₃ cs₃ ≡ pack (negate (view (held w.vars count radius ks cs)))
  turned_struct z k c =
      ap₂ struct (k ∙ ap (over (take count ks)) z.keys) (c ∙ ap (over (turned count cs)) z.coefficients)
      ∙ over_array
