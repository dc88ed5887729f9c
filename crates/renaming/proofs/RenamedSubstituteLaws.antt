-- Substitution for a renamed variable in a renamed model gives the renamed answer: Horner's scheme iteration by
-- iteration.
use Rattle.std.specs.Prelude.{◌≡◌, Bool, List}
use Rattle.std.proofs.Math.Path.{refl, sym, ap, ap₂}
use Rattle.std.proofs.Common.{◌∙◌}
use Prim.Native.Nat.{ℕ, zero, suc, ◌<◌}
use Rattle.std.proofs.Math.Dec.{eqb}
use Rattle.std.proofs.Math.IntN.{ℤ}
use Rattle.polynomial.specs.Polynomial.{exponent, without}
use Rattle.calculus.specs.Monomial.{index_of}
use Rattle.calculus.specs.Terms.{Terms, select}
use Rattle.calculus.specs.Model.{Model}
use Rattle.calculus.specs.Refusal.{require, ◌then◌, leaves_box}
use Rattle.calculus.specs.Operations.{add, multiply, range_in_box, largest_exponent, part_terms, part, horner, widen}
use Rattle.calculus.specs.Operations.{substitute}
use Rattle.calculus_laws.specs.RefusalLaws.{IfAccepted, then_accepted, weaken}
use Rattle.calculus_laws.specs.SumLaws as S
use Rattle.calculus_laws.specs.SumLaws.{ℤ_addition, sum_cong, sum_map_monomials}
use Rattle.calculus_laws.specs.CanonicalLaws.{at_monomial, coefficient_at}
use Rattle.calculus_laws.specs.SoundLaws.{Canonical, Sound, add_sound, multiply_sound, part_canonical, horner_canonical}
use Rattle.renaming.specs.Reordering.{Reordering, rename, rename_variable, rename_terms, rename_model}
use Rattle.renaming.specs.RenamedAnswerLaws.{rename_answer, then_renamed, require_renamed}
use Rattle.renaming.specs.Additions.{ℕ_max}
use Rattle.renaming.proofs.RenamedMonomialLaws.{exponent_renamed, without_renamed}
use Rattle.renaming.specs.TermSumLaws.{largest_exponent_sum}
use Rattle.renaming.proofs.RenamedTermsLaws.{InOrder, select_in_order, sum_renamed, renamed_at, renamed_unique}
use Rattle.renaming.proofs.RenamedTermsLaws.{select_by_renamed}
use Rattle.renaming.proofs.RenamedModelLaws.{canonical_in_order, canonical_renamed, model_renamed, widen_renamed}
use Rattle.renaming.proofs.RenamedModelLaws.{range_in_box_renamed}
use Rattle.renaming.proofs.RenamedOperationLaws.{add_renamed}
use Rattle.renaming.proofs.RenamedProductLaws.{multiply_renamed}

module _ {n : ℕ} (ρ : Reordering n) where
  module _ (i : ℕ) (inside : index_of i < n) where
    -- ---- the parts
    pub largest_exponent_renamed : (p : Terms) → InOrder n p
        → largest_exponent (rename_variable ρ i) (rename_terms ρ p) ≡ largest_exponent i p
    largest_exponent_renamed p h = largest_exponent_sum (rename_variable ρ i) (rename_terms ρ p)
        ∙ sum_renamed ρ p h ℕ_max (λ k c. exponent (index_of (rename_variable ρ i)) k)
        ∙ sum_cong ℕ_max _ (λ k c. exponent (index_of i) k) (λ k c. exponent_renamed ρ i inside k) p
        ∙ sym (largest_exponent_sum i p)

    pub part_renamed : (d k : ℕ) (f : Model) → Canonical n d f
        → part (rename_variable ρ i) k (rename_model ρ f) ≡ rename_model ρ (part i k f)
    part_renamed d k f h = unfold part rename_model in model_renamed ρ f.vars 0 0 _ _ refl
        (unfold part rename_model in renamed_unique ρ _ (canonical_in_order before) before.nonzero_terms _
        after.rising_terms after.nonzero_terms coefficients)
      where
        before : Canonical n d (part i k f)
        before = part_canonical n d i k f h

        after : Canonical n d (part (rename_variable ρ i) k (rename_model ρ f))
        after = part_canonical n d (rename_variable ρ i) k (rename_model ρ f) (canonical_renamed ρ d f h)

        chosen : List ℕ → ℤ → Bool
        chosen j c = eqb (exponent (index_of i) j) k

        chosen' : List ℕ → ℤ → Bool
        chosen' j c = eqb (exponent (index_of (rename_variable ρ i)) j) k

        order : InOrder n (select chosen f.terms)
        order = select_in_order n chosen f.terms (canonical_in_order h)

        coefficients : (j : List ℕ) → coefficient_at (part_terms (rename_variable ρ i) k (rename_terms ρ f.terms)) j
            ≡ renamed_at ρ j (part_terms i k f.terms)
        coefficients j = unfold coefficient_at part_terms in
            (sum_map_monomials ℤ_addition (at_monomial j) (without (index_of (rename_variable ρ i)))
            (select chosen' (rename_terms ρ f.terms))
            ∙ ap (λ q. sum_of q) (select_by_renamed ρ chosen chosen'
            (λ l c e. ap (λ a. eqb a k) (exponent_renamed ρ i inside l)) f.terms
            (canonical_in_order h) h.nonzero_terms)
            ∙ sum_renamed ρ (select chosen f.terms) order ℤ_addition
            (λ l c. at_monomial j (without (index_of (rename_variable ρ i)) l) c)
            ∙ sum_cong ℤ_addition _ (λ l c. at_monomial j (rename ρ (without (index_of i) l)) c)
            (λ l c. ap (λ z. at_monomial j z c) (without_renamed ρ i inside l)) (select chosen f.terms)
            ∙ sym (sum_map_monomials ℤ_addition (λ l c. at_monomial j (rename ρ l) c) (without (index_of i))
            (select chosen f.terms)))
          where
            sum_of : Terms → ℤ
            sum_of = S.sum ℤ_addition (λ l c. at_monomial j (without (index_of (rename_variable ρ i)) l) c)

    -- ---- Horner's scheme
    module _ (d : ℕ) (f g : Model) (hf : Canonical n d f) (hg : Canonical n d g) where
      -- multiply by g
      product_of : (h : Model) → Canonical n d h
          → multiply d (rename_model ρ h) (rename_model ρ g) ≡ rename_answer ρ (multiply d h g)
      product_of h c = multiply_renamed ρ h g (canonical_in_order c) (canonical_in_order hg) d

      -- add the next part
      sum_with_part : (k : ℕ) (p : Model) → Canonical n d p
          → add (rename_model ρ p) (part (rename_variable ρ i) k (rename_model ρ f))
          ≡ rename_answer ρ (add p (part i k f))
      sum_with_part k p c = ap (add (rename_model ρ p)) (part_renamed d k f hf)
          ∙ add_renamed ρ p (part i k f) (canonical_in_order c) (canonical_in_order (part_canonical n d i k f hf))

      -- one iteration
      pub iteration_renamed : (k : ℕ) (h : Model) → Canonical n d h
          → (multiply d (rename_model ρ h) (rename_model ρ g)
          then (λ p. add p (part (rename_variable ρ i) k (rename_model ρ f))))
          ≡ rename_answer ρ (multiply d h g then (λ p. add p (part i k f)))
      iteration_renamed k h c =
          ap (λ a. a then (λ p. add p (part (rename_variable ρ i) k (rename_model ρ f)))) (product_of h c)
          ∙ then_renamed ρ {P = Sound n d} (multiply d h g) (λ p. add p (part i k f)) _ (multiply_sound n d h g c hg)
          (λ p s. sum_with_part k p s.0)

      -- and what it gives
      pub iteration_canonical : (k : ℕ) (h : Model) → Canonical n d h
          → IfAccepted (Canonical n d) (multiply d h g then (λ p. add p (part i k f)))
      iteration_canonical k h c = then_accepted (multiply_sound n d h g c hg)
          (λ p s. weaken (λ r t. t.0) (add_sound n d p (part i k f) s.0 (part_canonical n d i k f hf)))

      horner_renamed : (k : ℕ) (h : Model) → Canonical n d h
          → horner d (rename_variable ρ i) (rename_model ρ f) (rename_model ρ g) k (rename_model ρ h)
          ≡ rename_answer ρ (horner d i f g k h)
      unfolding horner
      horner_renamed zero h c = unfold rename_answer in refl
      horner_renamed (suc k) h c =
          ap (λ a. a then horner d (rename_variable ρ i) (rename_model ρ f) (rename_model ρ g) k)
          (iteration_renamed k h c)
          ∙ then_renamed ρ {P = Canonical n d} (multiply d h g then (λ p. add p (part i k f))) (horner d i f g k) _
          (iteration_canonical k h c) (λ m s. horner_renamed k m s)

      -- ---- the whole
      pub substitute_renamed : substitute d (rename_variable ρ i) (rename_model ρ f) (rename_model ρ g)
          ≡ rename_answer ρ (substitute d i f g)
      unfolding substitute
      substitute_renamed =
          ap₂ (λ b a. require b leaves_box (a then widen (rename_model ρ f).radius))
          (range_in_box_renamed ρ g (canonical_in_order hg)) scheme
          ∙ ap (require (range_in_box g) leaves_box) (then_renamed ρ {P = Canonical n d}
          (horner d i f g K (part i K f)) (widen f.radius) (widen (rename_model ρ f).radius)
          (horner_canonical n d i f g hf hg K (part i K f) (part_canonical n d i K f hf)) wide)
          ∙ require_renamed ρ (range_in_box g) leaves_box (horner d i f g K (part i K f) then widen f.radius)
        where
          K : ℕ
          K = largest_exponent i f.terms

          K' : ℕ
          K' = largest_exponent (rename_variable ρ i) (rename_model ρ f).terms

          same_K : K' ≡ K
          same_K = unfold rename_model in largest_exponent_renamed f.terms (canonical_in_order hf)

          wide : (m : Model) → Canonical n d m → widen (rename_model ρ f).radius (rename_model ρ m)
              ≡ rename_answer ρ (widen f.radius m)
          wide m c = unfold rename_model in widen_renamed ρ f.radius m (canonical_in_order c)

          scheme : horner d (rename_variable ρ i) (rename_model ρ f) (rename_model ρ g) K'
              (part (rename_variable ρ i) K' (rename_model ρ f)) ≡ rename_answer ρ (horner d i f g K (part i K f))
          scheme = ap (λ K. horner d (rename_variable ρ i) (rename_model ρ f) (rename_model ρ g) K
              (part (rename_variable ρ i) K (rename_model ρ f))) same_K
              ∙ ap (horner d (rename_variable ρ i) (rename_model ρ f) (rename_model ρ g) K) (part_renamed d K f hf)
              ∙ horner_renamed K (part i K f) (part_canonical n d i K f hf)
