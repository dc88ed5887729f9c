-- Two models that lend their own arrays: what these hand over are the models again.
use Rattle.std.specs.Prelude.{◌≡◌, refl, List, [], ◌∷◌, ℕ, zero, suc, ◌-◌, ◌≤◌, ℤ, length}
use Rattle.std.proofs.Common.{sym, ◌∙◌, ap, ap₂, subst, append-nil, arith}
use Rattle.calculus.specs.Model.{most_terms}
use Rattle.calculus.specs.Operations.{multiply}
use Rattle.calculus.specs.Shares.{product_shares}
use Rattle.model_types.specs.declared.Term.{Term}
use Rattle.model_types.specs.declared.Model.{Model}
use Rattle.model_types.specs.declared.Accounted.{Accounted}
use Rattle.model_types.specs.Arrays.{padded}
use Rattle.model_types.specs.ModelStruct.{paired, pad, view, listed, of_terms}
use Rattle.model_types.specs.ModelStructLaws.{limits}
use Rattle.model_types.specs.PairedLaws.{length_paired, listed_own, listed_struct}
use Rattle.model_types.specs.SharesStruct.{accounted}
use Rattle.model_slices.specs.HandedModels.{terms_of, handed}
use Rattle.product_answer.specs.ProductFactors.{Factors}

-- ---- one model
-- all terms of two arrays
terms_whole : (n : ℕ) (ks : List ℕ) (cs : List ℤ) → length ks ≡ n → length cs ≡ n → terms_of n ks cs ≡ paired ks cs
unfolding terms_of paired
terms_whole zero [] cs h l = refl
terms_whole zero (k ∷ ks) cs h l = absurd (omega arith)
terms_whole (suc n) [] cs h l = absurd (omega arith)
terms_whole (suc n) (k ∷ ks) [] h l = absurd (omega arith)
terms_whole (suc n) (k ∷ ks) (c ∷ cs) h l =
    ap (λ (r : List Term). record { key = k; coefficient = c } ∷ r) (terms_whole n ks cs (omega arith) (omega arith))

-- no place is left to fill
pad_whole : (l : List Term) → length l ≡ most_terms → pad l ≡ l
unfolding padded
pad_whole l h =
    let none : most_terms - length l ≡ 0 = omega arith in
    rw (none, append-nil) refl

-- a struct whose arrays have all places
pub record Whole (m : Model) : Type 0 where
  pub keys_whole : length m.keys ≡ most_terms
  pub coefficients_whole : length m.coefficients ≡ most_terms

pub handed_own : (m : Model) → Whole m → handed m.n m.count m.radius m.keys m.coefficients ≡ m
unfolding handed
handed_own m w =
    let even : length m.keys ≡ length m.coefficients = w.keys_whole ∙ sym w.coefficients_whole in
    ap (of_terms m.n m.count m.radius)
    (ap pad (terms_whole most_terms m.keys m.coefficients w.keys_whole w.coefficients_whole)
    ∙ pad_whole (listed m) (length_paired m.keys m.coefficients even ∙ w.keys_whole))
    ∙ sym (listed_struct (listed_own m.keys m.coefficients even) m.n m.count m.radius)

-- ---- two factors, the second taken in the variables of the first
module _ {d : ℕ} {f g : Model} (h : Factors d f g) (wf : Whole f) (wg : Whole g) where
  abbrev first : Model
  first = handed f.n f.count f.radius f.keys f.coefficients

  abbrev second : Model
  second = handed f.n g.count g.radius g.keys g.coefficients

  first_own : first ≡ f
  first_own = handed_own f wf

  second_own : second ≡ g
  second_own =
      ap (λ n. handed n g.count g.radius g.keys g.coefficients) h.vars ∙ handed_own g wg

  pub own_factors : Factors d first second
  own_factors =
      subst (λ x. Factors d x second) (sym first_own) (subst (λ y. Factors d f y) (sym second_own) h)

  -- the arrays have every place that a count names
  pub first_long : (f.count ≤ length f.keys) × (f.count ≤ length f.coefficients)
  first_long =
      let few = (limits d f h.first).few in
      (omega (arith, few, wf.keys_whole), omega (arith, few, wf.coefficients_whole))

  pub second_long : (g.count ≤ length g.keys) × (g.count ≤ length g.coefficients)
  second_long =
      let few = (limits d g h.second).few in
      (omega (arith, few, wg.keys_whole), omega (arith, few, wg.coefficients_whole))

  -- the product of what they hand over is their product
  pub own_product : (s : Accounted)
      → s ≡ accounted (multiply d (view first) (view second)) (λ m. product_shares d (view first) (view second))
      → s ≡ accounted (multiply d (view f) (view g)) (λ m. product_shares d (view f) (view g))
  own_product s e = e
      ∙ ap₂ (λ x y. accounted (multiply d (view x) (view y)) (λ m. product_shares d (view x) (view y)))
      first_own second_own
