-- The product of two models that lie in slices, its terms stored by their keys into two others.
use Rattle.std.proofs.Math.Path.{◌≡◌, ap, ap₂, subst}
use Rattle.std.specs.Prelude.{refl, ℕ, ◌≤◌, ℤ, length}
use Rattle.std.proofs.Common.{sym, ◌∙◌, arith}
use mathlib.Core.List.{List, [], ◌∷◌, ◌++◌, map}
use Rattle.std.proofs.Math.Dec.{T}
use Rattle.std.proofs.lemmas.List.{length-map}
use Rattle.calculus.specs.Model.{most_terms, sound}
use Rattle.calculus.specs.Operations.{multiply}
use Rattle.calculus.specs.Shares.{product_shares}
use Rattle.model_types.specs.declared.Term.{Term}
use Rattle.model_types.specs.declared.Model.{Model}
use Rattle.model_types.specs.declared.Refusal.{Refusal}
use Rattle.std.specs.Prelude.{Ok, Err}
use Rattle.model_types.specs.ModelStruct.{refused_at}
use Rattle.model_types.specs.declared.Accounted.{Accounted}
use Rattle.model_types.specs.ModelStruct.{view, pad, of_terms}
use Rattle.model_types.specs.ModelStructLaws.{limits}
use Rattle.model_types.specs.SharesStruct.{accounted}
use Rattle.model_slices.specs.declared.Kept.{Kept}
use Rattle.model_slices.specs.HandedModels.{terms_of, handed, over}
use Rattle.model_slices.specs.HandedModelsLaws.{taken_view}
use Rattle.model_slices.specs.HeldModels.{held, Room}
use Rattle.product_sums.specs.TermArrays.{terms}
use Rattle.product_sums.specs.TermArrayLaws.{terms_length}
use Rattle.product_answer.specs.PackedTerms.{narrowed_term, narrow_keys, narrow_coefficients, packed}
use Rattle.product_answer.specs.ProductFactors.{Factors}
use Rattle.product_answer.specs.KeptProduct.{model_unless, kept_model, kept_accounted, KeptReady}
use Rattle.model_horner_product.specs.HornerProduct.{FactorsOf, KeptIn}

-- ---- the factors
-- what slices hold is what they hand over, to every call
same_view : (n count radius : ℕ) (ks : List ℕ) (cs : List ℤ) → Room ks cs → count ≤ most_terms
    → view (held n count radius ks cs) ≡ view (handed n count radius ks cs)
unfolding held most_terms
same_view n count radius ks cs r few =
    taken_view n count radius count ks cs (omega (arith, r.keys, r.coefficients))

module _ {d n c e count radius : ℕ} {ks ks₂ : List ℕ} {cs cs₂ : List ℤ}
    (w : FactorsOf d n c e ks cs count radius ks₂ cs₂) where
  abbrev f : Factors d (held n c e ks cs) (held n count radius ks₂ cs₂)
  f = w.factors

  abbrev room : Room ks cs
  room = w.first_room

  abbrev room₂ : Room ks₂ cs₂
  room₂ = w.second_room

  pub first_few : c ≤ most_terms
  unfolding held
  first_few = (limits _ _ f.first).few

  pub second_few : count ≤ most_terms
  unfolding held
  second_few = (limits _ _ f.second).few

  pub handed_factors : Factors d (handed n c e ks cs) (handed n count radius ks₂ cs₂)
  unfolding handed
  handed_factors = record {
    order = f.order;
    first = subst (λ v. T (sound d v)) (same_view n c e ks cs room first_few) f.first;
    second = subst (λ v. T (sound d v)) (same_view n count radius ks₂ cs₂ room₂ second_few) f.second;
    vars = refl;
  }

  pub first_long : (c ≤ length ks) × (c ≤ length cs)
  unfolding most_terms
  first_long = (omega (arith, first_few, room.keys), omega (arith, first_few, room.coefficients))

  pub second_long : (count ≤ length ks₂) × (count ≤ length cs₂)
  unfolding most_terms
  second_long = (omega (arith, second_few, room₂.keys), omega (arith, second_few, room₂.coefficients))

  pub handed_product : {s : Accounted}
      → s ≡ accounted (multiply d (view (handed n c e ks cs)) (view (handed n count radius ks₂ cs₂)))
      (λ m. product_shares d (view (handed n c e ks cs)) (view (handed n count radius ks₂ cs₂)))
      → s ≡ accounted (multiply d (view (held n c e ks cs)) (view (held n count radius ks₂ cs₂)))
      (λ m. product_shares d (view (held n c e ks cs)) (view (held n count radius ks₂ cs₂)))
  handed_product s = s ∙ ap₂ (λ x y. accounted (multiply d x y) (λ m. product_shares d x y))
      (sym (same_view n c e ks cs room first_few)) (sym (same_view n count radius ks₂ cs₂ room₂ second_few))

-- ---- what is stored
-- the keys and the coefficients of terms in two slices
terms_back : (m : List Term) (k : List ℕ) (z : List ℤ)
    → terms_of (length m) (map (λ t. t.key) m ++ k) (map (λ t. t.coefficient) m ++ z) ≡ m
unfolding terms_of
terms_back [] k z = refl
terms_back (t ∷ m) k z = ap (λ (r : List Term). t ∷ r) (terms_back m k z)

module _ (n : ℕ) {k : Kept} {kept : List ℕ} {rounded : List ℤ} (ready : KeptReady k kept rounded)
    {a : Accounted} (e : kept_accounted n k kept rounded ≡ a) where
  -- of a refused one no terms are stored
  pub product_stops : {x : Refusal} {y : ℕ} → k.verdict ≡ Err (refused_at x y) → (ks : List ℕ) (cs : List ℤ)
      → KeptIn n k ks cs a
  unfolding kept_accounted
  product_stops v ks cs = record {
    verdict = ap (λ (b : Accounted). b.answer.verdict) e;
    shares = ap (λ (b : Accounted). b.shares) e;
    model = λ t. let z : ◌≡◌ {A = ℕ} 0 1 = cc in absurd (omega arith);
  }

  module _ (v : k.verdict ≡ Ok tt) {ks : List ℕ} {cs : List ℤ} (ks₂ : List ℕ) (cs₂ : List ℤ)
      (ks_are : ks ≡ over (narrow_keys (terms k.count kept rounded)) ks₂)
      (cs_are : cs ≡ over (narrow_coefficients (terms k.count kept rounded)) cs₂) where
    abbrev stored : List Term
    stored = map narrowed_term (terms k.count kept rounded)

    long : length (terms k.count kept rounded) ≡ k.count
    long = terms_length k.count kept rounded (ready.ready v).keys_long (ready.ready v).coefficients_long

    all_stored : length stored ≡ k.count
    all_stored = length-map (terms k.count kept rounded) narrowed_term ∙ long

    terms_are : terms_of k.count ks cs ≡ stored
    unfolding over narrow_keys narrow_coefficients
    terms_are = ap₂ (λ x y. terms_of k.count x y) ks_are cs_are
        ∙ ap (λ j. terms_of j (over (narrow_keys (terms k.count kept rounded)) ks₂)
        (over (narrow_coefficients (terms k.count kept rounded)) cs₂)) (sym all_stored)
        ∙ terms_back stored _ _

    model_is : held n k.count k.radius ks cs ≡ kept_model n k kept rounded
    unfolding held kept_model packed model_unless
    model_is = ap₂ (λ (i : ℕ) (l : List Term). of_terms n i k.radius (pad l)) (sym long) terms_are
        ∙ ap (λ u. model_unless u (packed n k.radius (terms k.count kept rounded))) (sym v)

    pub product_stored : KeptIn n k ks cs a
    unfolding kept_accounted
    product_stored = record {
      verdict = ap (λ (b : Accounted). b.answer.verdict) e;
      shares = ap (λ (b : Accounted). b.shares) e;
      model = λ t. model_is ∙ ap (λ (b : Accounted). b.answer.model) e;
    }
