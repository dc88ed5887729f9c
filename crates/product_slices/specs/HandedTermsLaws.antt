-- A model that lies in slices: what stands at a place, and one iteration of the loop that unpacks its terms.
use Rattle.std.specs.Prelude.{◌≡◌, ℕ, zero, suc, ◌+◌, ◌^◌, ◌≤◌, ◌<◌, ℤ, pos, nat_abs, length, set}
use Rattle.std.proofs.Math.Path.{refl, sym, ap, ap₂}
use Rattle.std.proofs.Common.{◌∙◌, add-one, arith}
use mathlib.Core.List.{List, [], ◌∷◌, ◌++◌}
use Rattle.std.proofs.Math.ListN.{get_or, get_or-append}
use Rattle.std.proofs.lemmas.List.{set-get_or}
use Rattle.numbers.proofs.FixedLaws.{span_fits}
use Rattle.calculus.specs.Key.{key_limit, monomial_of}
use Rattle.calculus.specs.Terms.{term, sum_over, size, map_monomials}
use Rattle.calculus.specs.Model.{most_terms}
use Rattle.model_keys.specs.Keys.{widened}
use Rattle.model_keys.specs.WideKeyLaws.{widened_monomial}
use Rattle.model_types.specs.declared.Term.{Term}
use Rattle.model_types.specs.declared.Model.{Model}
use Rattle.model_types.specs.Arrays.{padded}
use Rattle.model_types.specs.ArrayLaws.{length_padded}
use Rattle.model_types.specs.ModelStruct.{zero_term, view_term, listed}
use Rattle.model_types.specs.ModelStructLaws.{read, view_terms, read_within_span, size_more, map_more}
use Rattle.model_slices.specs.HandedModels.{terms_of, handed}
use Rattle.model_slices.specs.HandedModelsLaws.{listed_handed}
use Rattle.product_sums.specs.TermArrays.{at_key, terms}
use Rattle.product_sums.specs.TermArrayLaws.{terms_push}
use Rattle.product_sums.specs.Wide.{wide, wide_terms}
use Rattle.product_answer.specs.ProductFactors.{Unpacked}
use Rattle.product_slices.specs.HandedTerms.{Handed}

-- ---- the terms of two slices
length_most : (n : ℕ) (ks : List ℕ) (cs : List ℤ) → length (terms_of n ks cs) ≤ n
unfolding terms_of
length_most zero ks cs = omega arith
length_most (suc n) [] cs = omega arith
length_most (suc n) (k ∷ ks) [] = omega arith
length_most (suc n) (k ∷ ks) (c ∷ cs) = omega (arith, length_most n ks cs)

-- one of them
abbrev pair : ℕ → ℤ → Term
pair k c = record { key = k; coefficient = c }

reaches : (n i : ℕ) (ks : List ℕ) (cs : List ℤ) → i < n → i < length ks → i < length cs
    → i < length (terms_of n ks cs)
unfolding terms_of
reaches zero i ks cs h l m = absurd (omega arith)
reaches (suc n) i [] cs h l m = absurd (omega arith)
reaches (suc n) i (k ∷ ks) [] h l m = absurd (omega arith)
reaches (suc n) zero (k ∷ ks) (c ∷ cs) h l m = omega arith
reaches (suc n) (suc i) (k ∷ ks) (c ∷ cs) h l m =
    omega (arith, reaches n i ks cs (omega arith) (omega arith) (omega arith))

pair_at : (n i : ℕ) (ks : List ℕ) (cs : List ℤ) → i < n → i < length ks → i < length cs
    → get_or (terms_of n ks cs) i zero_term ≡ pair (get_or ks i 0) (get_or cs i (pos 0))
unfolding terms_of
pair_at zero i ks cs h l m = absurd (omega arith)
pair_at (suc n) i [] cs h l m = absurd (omega arith)
pair_at (suc n) i (k ∷ ks) [] h l m = absurd (omega arith)
pair_at (suc n) zero (k ∷ ks) (c ∷ cs) h l m = refl
pair_at (suc n) (suc i) (k ∷ ks) (c ∷ cs) h l m = pair_at n i ks cs (omega arith) (omega arith) (omega arith)

-- ---- the struct that they stand for
module _ (n count radius : ℕ) (ks : List ℕ) (cs : List ℤ) where
  pub handed_long : count ≤ most_terms → count ≤ length (listed (handed n count radius ks cs))
  handed_long h =
      let l = terms_of most_terms ks cs in
      rw (listed_handed n count radius ks cs)
      (omega (arith, length_padded zero_term most_terms l (length_most most_terms ks cs)))

  pub handed_at : (i : ℕ) → i < most_terms → i < length ks → i < length cs
      → get_or (listed (handed n count radius ks cs)) i zero_term ≡ pair (get_or ks i 0) (get_or cs i (pos 0))
  unfolding padded
  handed_at i h l m =
      ap (λ (r : List Term). get_or r i zero_term) (listed_handed n count radius ks cs)
      ∙ get_or-append (terms_of most_terms ks cs) _ zero_term i (reaches most_terms i ks cs h l m)
      ∙ pair_at most_terms i ks cs h l m

-- ---- the loop that unpacks them: the coefficients stay where they are
-- the first i terms of a model stand by their wide keys
pub record Unpacking (m : Model) (cs : List ℤ) (wides : List ℕ) (total i : ℕ) : Type 0 where
  pub held : terms i wides cs ≡ wide_terms (read m.n i (listed m))
  pub sum : total ≡ size (read m.n i (listed m))

module _ {count : ℕ} {ks : List ℕ} {cs : List ℤ} (w : Handed count ks cs) where
  abbrev model : Model
  model = handed w.vars count w.radius ks cs

  whole : model.count ≤ length (listed model)
  unfolding handed
  whole = handed_long w.vars count w.radius ks cs w.few

  pub handed_first : (wides : List ℕ) → Unpacking model cs wides 0 0
  unfolding terms wide_terms map_monomials size sum_over
  handed_first wides = record { held = refl; sum = refl }

  module _ {wides : List ℕ} {total i : ℕ} (h : Unpacking model cs wides total i) where
    module _ (l : i < count) where
      at : get_or (listed model) i zero_term ≡ pair (get_or ks i 0) (get_or cs i (pos 0))
      at = handed_at w.vars count w.radius ks cs i (omega (arith, w.few)) (omega (arith, w.keys_long))
          (omega (arith, w.coefficients_long))

      inside : i < length (listed model)
      unfolding handed
      inside = omega (arith, whole)

      -- one more is read
      read_one : wide_terms (read model.n (i + 1) (listed model))
          ≡ wide_terms (read model.n i (listed model))
          ++ (term (get_or cs i (pos 0)) (wide (monomial_of model.n (get_or ks i 0))) ∷ [])
      unfolding wide_terms map_monomials view_term
      read_one =
          map_more model.n i (listed model) inside (λ s. term s.coefficient (wide s.exponents))
          ∙ ap (λ (t : Term). wide_terms (read model.n i (listed model))
          ++ (term t.coefficient (wide (monomial_of model.n t.key)) ∷ [])) at

      size_one : size (read model.n (i + 1) (listed model))
          ≡ size (read model.n i (listed model)) + nat_abs (get_or cs i (pos 0))
      size_one = size_more model.n i (listed model) inside
          ∙ ap (λ (t : Term). size (read model.n i (listed model)) + nat_abs t.coefficient) at

      pub handed_iteration : i < length wides → get_or ks i 0 < key_limit
          → Unpacking model cs (set wides i (widened (get_or ks i 0))) (total + nat_abs (get_or cs i (pos 0))) (i + 1)
      unfolding wide handed
      handed_iteration lw small =
          let k = get_or ks i 0 in
          let c = get_or cs i (pos 0) in
          record {
            held = ap (λ j. terms j (set wides i (widened k)) cs) (add-one i)
                ∙ ap (terms (suc i) (set wides i (widened k))) (sym (set-get_or cs i (pos 0)))
                ∙ terms_push i wides cs (widened k) c lw (omega (arith, w.coefficients_long))
                ∙ ap₂ (λ p z. p ++ (at_key z c ∷ [])) h.held (widened_monomial w.vars k w.width small)
                ∙ sym read_one;
            sum = omega (arith, h.sum, size_one);
          }

      -- the sum fits
      pub handed_room : total + nat_abs (get_or cs i (pos 0)) < 2 ^ 63
      unfolding handed
      handed_room =
          omega (arith, h.sum, size_one, read_within_span model (i + 1) whole (omega arith), w.small, span_fits)

    pub handed_end : i ≡ count → Unpacked model wides cs total
    unfolding handed
    handed_end e =
        let v = sym (view_terms model whole) in
        record {
          held = ap (λ j. terms j wides cs) (sym e) ∙ h.held
              ∙ ap (λ j. wide_terms (read w.vars j (listed model))) e
              ∙ ap wide_terms v;
          sum = h.sum ∙ ap (λ j. size (read w.vars j (listed model))) e ∙ ap size v;
        }
