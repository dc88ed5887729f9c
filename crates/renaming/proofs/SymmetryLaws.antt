-- What the rules ask of a monomial is symmetric in the variables: degree, evenness, the integral's divisor.
use Rattle.std.specs.Prelude.{◌≡◌, Bool, true, false, ◌&&◌, List, [], ◌∷◌, ℕ, zero, suc, ◌+◌, ◌*◌, length}
use Rattle.std.proofs.Math.Path.{refl}
use Rattle.std.proofs.Common.{sym, ◌∙◌, ap, ap₂, arith}
use Rattle.polynomial.specs.Polynomial.{exponent}
use Rattle.polynomial.specs.Integral.{even, first, rest, all_even, divisor}
use Rattle.calculus.specs.Monomial.{degree}
use Rattle.calculus_laws.specs.SumLaws.{Addition, ℕ_addition}
use Rattle.renaming.specs.Reordering.{Reordering, rename}
use Rattle.renaming.specs.Additions.{ℕ_product, both_tests}
use Rattle.renaming.specs.TotalLaws.{total, total_cong, total_first, total_reordered}
use Rattle.renaming.proofs.RenamedMonomialLaws.{length_rename, exponent_from}

-- ---- sums over the exponents
module _ {A : Type 0} (N : Addition A) (g : ℕ → A) where
  -- g of each of the first n exponents, added up
  abbrev pub over_exponents : ℕ → List ℕ → A
  over_exponents n k = total N n (λ i. g (exponent i k))

  -- it does not mind renaming
  pub over_renamed : {n : ℕ} (ρ : Reordering n) (k : List ℕ) → over_exponents n (rename ρ k) ≡ over_exponents n k
  over_renamed {n} ρ k = total_cong N n (λ j. g (exponent j (rename ρ k))) (λ j. g (exponent (ρ.from j) k))
      (λ j h. ap g (exponent_from ρ k j h))
      ∙ total_reordered N ρ (λ i. g (exponent i k))

-- the exponent of the first variable, and those of the others
exponent_first : (k : List ℕ) → exponent 0 k ≡ first k
unfolding exponent first
exponent_first [] = refl
exponent_first (e ∷ k) = refl

exponent_rest : (i : ℕ) (k : List ℕ) → exponent (suc i) k ≡ exponent i (rest k)
unfolding exponent rest
exponent_rest i [] = refl
exponent_rest i (e ∷ k) = refl

-- one variable after the other
over_first : {A : Type 0} (N : Addition A) (g : ℕ → A) (n : ℕ) (k : List ℕ)
    → over_exponents N g (suc n) k ≡ N.plus (g (first k)) (over_exponents N g n (rest k))
over_first N g n k = total_first N n (λ i. g (exponent i k))
    ∙ ap₂ N.plus (ap g (exponent_first k))
    (total_cong N n (λ i. g (exponent (suc i) k)) (λ i. g (exponent i (rest k))) (λ i h. ap g (exponent_rest i k)))

degree_total : (n : ℕ) (k : List ℕ) → length k ≡ n → degree k ≡ over_exponents ℕ_addition (λ e. e) n k
unfolding degree
degree_total zero [] h = unfold total in refl
degree_total zero (e ∷ k) h = absurd (omega arith)
degree_total (suc n) [] h = absurd (omega arith)
degree_total (suc n) (e ∷ k) h = ap (e +◌) (degree_total n k (omega arith))
    ∙ sym (over_first ℕ_addition (λ e. e) n (e ∷ k) ∙ parts)
  where
    parts : first (e ∷ k) + over_exponents ℕ_addition (λ e. e) n (rest (e ∷ k))
        ≡ e + over_exponents ℕ_addition (λ e. e) n k
    parts = unfold first rest in refl

all_even_total : (n : ℕ) (k : List ℕ) → all_even n k ≡ over_exponents both_tests even n k
unfolding all_even
all_even_total zero k = unfold total in refl
all_even_total (suc n) k = go (even (first k)) (all_even n (rest k))
    ∙ ap (even (first k) &&◌) (all_even_total n (rest k)) ∙ sym (over_first both_tests even n k)
  where
    go : (a b : Bool) → elim a as (λ a. Bool) [ true ↦ b | false ↦ false ] ≡ a && b
    go true b = refl
    go false b = refl

divisor_total : (n : ℕ) (k : List ℕ) → divisor n k ≡ over_exponents ℕ_product suc n k
unfolding divisor
divisor_total zero k = unfold total in refl
divisor_total (suc n) k = ap (suc (first k) *◌) (divisor_total n (rest k)) ∙ sym (over_first ℕ_product suc n k)

-- ---- so the rules do not mind renaming
module _ {n : ℕ} (ρ : Reordering n) (k : List ℕ) where
  pub degree_renamed : length k ≡ n → degree (rename ρ k) ≡ degree k
  degree_renamed h = degree_total n (rename ρ k) (length_rename ρ k) ∙ over_renamed ℕ_addition (λ e. e) ρ k
      ∙ sym (degree_total n k h)

  pub all_even_renamed : all_even n (rename ρ k) ≡ all_even n k
  all_even_renamed = all_even_total n (rename ρ k) ∙ over_renamed both_tests even ρ k ∙ sym (all_even_total n k)

  pub divisor_renamed : divisor n (rename ρ k) ≡ divisor n k
  divisor_renamed = divisor_total n (rename ρ k) ∙ over_renamed ℕ_product suc ρ k ∙ sym (divisor_total n k)
