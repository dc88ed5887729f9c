-- The antiderivative of a renamed model in the renamed variable is the renamed antiderivative.
use Rattle.std.specs.Prelude.{◌≡◌, not, ℕ, ◌+◌, ◌%◌, ◌<◌, eqb, leb, ℤ, nat_abs}
use Rattle.std.proofs.Math.Path.{sym, ap₂}
use Rattle.std.proofs.Common.{◌∙◌, ap, arith, eqb→eq}
use mathlib.Core.List.{List}
use Rattle.std.proofs.Math.ListN.{length}
use Rattle.polynomial.specs.Polynomial.{exponent}
use Rattle.numbers.specs.Division.{divided_up, nearest}
use Rattle.calculus.specs.Monomial.{degree, index_of}
use Rattle.calculus.specs.Model.{Model}
use Rattle.calculus.specs.Operations.{is_inexact, growth_rounding, growth_swept, antiderivative}
use Rattle.calculus_laws.specs.MonomialLaws.{length_raise}
use Rattle.calculus_laws.specs.SumLaws.{Addition, ℕ_addition, ℤ_addition, if_so, if_so_nothing, if_ℕ, sum}
use Rattle.calculus_laws.specs.CanonicalLaws.{at_monomial, coefficient_at}
use Rattle.calculus_laws.specs.GrowthLaws.{up, new_exponent, stays, divided_sum, rounding_of, rounding_sum, swept_of}
use Rattle.calculus_laws.specs.GrowthLaws.{swept_sum}
use Rattle.calculus_laws.specs.SoundLaws.{Sound, antiderivative_sound}
use Rattle.renaming.specs.Reordering.{Reordering, rename, rename_variable, rename_terms, rename_model}
use Rattle.renaming.proofs.RenamedMonomialLaws.{renamed_inside, exponent_renamed, raise_renamed}
use Rattle.renaming.proofs.SymmetryLaws.{degree_renamed}
use Rattle.renaming.specs.TermSumLaws.{sum_agree}
use Rattle.renaming.proofs.RenamedTermsLaws.{InOrder, long, sum_renamed, renamed_at, renamed_unique}
use Rattle.renaming.proofs.RenamedModelLaws.{canonical_in_order, sound_renamed, model_renamed}

module _ {n : ℕ} (ρ : Reordering n) (d v : ℕ) (inside : index_of v < n) where
  -- the renamed variable
  abbrev w : ℕ
  w = rename_variable ρ v

  -- ---- one monomial: raised, its new exponent and its new degree
  module _ (k : List ℕ) (l : length k ≡ n) where
    up_renamed : up d w (rename ρ k) ≡ rename ρ (up d v k)
    up_renamed = raise_renamed ρ v inside k l

    new_exponent_renamed : new_exponent d w (rename ρ k) ≡ new_exponent d v k
    new_exponent_renamed = ap (exponent (index_of w)) up_renamed ∙ exponent_renamed ρ v inside (up d v k)

    stays_renamed : stays d w (rename ρ k) ≡ stays d v k
    stays_renamed = ap (λ j. leb (degree j) d) up_renamed ∙ ap (λ e. leb e d) (degree_renamed ρ (up d v k)
        (length_raise (index_of v) k (omega (arith, l, inside)) ∙ l))

    rounding_of_renamed : (c : ℤ) → rounding_of d w (rename ρ k) c ≡ rounding_of d v k c
    unfolding is_inexact
    rounding_of_renamed c = ap₂ (λ b e. if_ℕ b (if_ℕ (not (eqb (nat_abs c % e) 0)) 1)) stays_renamed
        new_exponent_renamed

    swept_of_renamed : (c : ℤ) → swept_of d w (rename ρ k) c ≡ swept_of d v k c
    swept_of_renamed c = ap₂ (λ b e. if_ℕ (not b) (divided_up (nat_abs c) e)) stays_renamed new_exponent_renamed

  -- ---- a sum over renamed terms, of what agrees at each monomial of n exponents
  sum_moved : {A : Type 0} (N : Addition A) (g h : List ℕ → ℤ → A)
      → ((k : List ℕ) (c : ℤ) → length k ≡ n → g (rename ρ k) c ≡ h k c)
      → (f : Model) → InOrder n f.terms → sum N g (rename_model ρ f).terms ≡ sum N h f.terms
  unfolding rename_model
  sum_moved N g h e f o = sum_renamed ρ f.terms o N g
      ∙ sum_agree N (λ k c. long n k) _ h (λ k c t. e k c (eqb→eq (length k) n t)) f.terms o.all_long

  -- ---- the radius
  pub growth_rounding_renamed : (f : Model) → InOrder n f.terms
      → growth_rounding d w (rename_model ρ f) ≡ growth_rounding d v f
  growth_rounding_renamed f o = rounding_sum d w (rename_model ρ f)
      ∙ sum_moved ℕ_addition (rounding_of d w) (rounding_of d v) (λ k c l. rounding_of_renamed k l c) f o
      ∙ sym (rounding_sum d v f)

  pub growth_swept_renamed : (f : Model) → InOrder n f.terms
      → growth_swept d w (rename_model ρ f) ≡ growth_swept d v f
  growth_swept_renamed f o = swept_sum d w (rename_model ρ f)
      ∙ sum_moved ℕ_addition (swept_of d w) (swept_of d v) (λ k c l. swept_of_renamed k l c) f o
      ∙ sym (swept_sum d v f)

  -- ---- the terms
  module _ (f : Model) (s : Sound n d f) where
    before : Sound n d (antiderivative d v f)
    before = antiderivative_sound n d v inside f s

    after : Sound n d (antiderivative d w (rename_model ρ f))
    after = antiderivative_sound n d w (renamed_inside ρ v inside) (rename_model ρ f) (sound_renamed ρ d f s)

    coefficients : (j : List ℕ) → coefficient_at (antiderivative d w (rename_model ρ f)).terms j
        ≡ renamed_at ρ j (antiderivative d v f).terms
    unfolding coefficient_at
    coefficients j = divided_sum d w ℤ_addition (at_monomial j) (λ k. if_so_nothing ℤ_addition _) (rename_model ρ f)
        ∙ sum_moved ℤ_addition _ (λ k c. if_so ℤ_addition (stays d v k)
        (at_monomial j (rename ρ (up d v k)) (nearest c (new_exponent d v k)))) moved f (canonical_in_order s.0)
        ∙ sym (divided_sum d v ℤ_addition (λ k c. at_monomial j (rename ρ k) c) (λ k. if_so_nothing ℤ_addition _) f)
      where
        moved : (k : List ℕ) (c : ℤ) → length k ≡ n
            → if_so ℤ_addition (stays d w (rename ρ k))
            (at_monomial j (up d w (rename ρ k)) (nearest c (new_exponent d w (rename ρ k))))
            ≡ if_so ℤ_addition (stays d v k) (at_monomial j (rename ρ (up d v k)) (nearest c (new_exponent d v k)))
        moved k c l = ap₂ (if_so ℤ_addition) (stays_renamed k l)
            (ap₂ (λ i e. at_monomial j i (nearest c e)) (up_renamed k l) (new_exponent_renamed k l))

    terms_renamed : (antiderivative d w (rename_model ρ f)).terms ≡ rename_terms ρ (antiderivative d v f).terms
    terms_renamed = renamed_unique ρ _ (canonical_in_order before.0) before.0.nonzero_terms _
        after.0.rising_terms after.0.nonzero_terms coefficients

    pub antiderivative_renamed : antiderivative d w (rename_model ρ f) ≡ rename_model ρ (antiderivative d v f)
    antiderivative_renamed = unfold antiderivative rename_model in model_renamed ρ f.vars _ _ _ _
        (ap₂ (λ a b. f.radius + a + b) (growth_rounding_renamed f o) (growth_swept_renamed f o))
        (unfold antiderivative in terms_renamed)
      where
        o : InOrder n f.terms
        o = canonical_in_order s.0
