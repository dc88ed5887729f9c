-- Renaming monomials: it is injective, and commutes with every operation on monomials.
use Rattle.std.specs.Prelude.{◌≡◌, List, ℕ, suc, ◌+◌, ◌<◌, length}
use Rattle.std.proofs.Math.Path.{refl, ap₂}
use Rattle.std.proofs.Common.{sym, ◌∙◌, ap, arith}
use native.Nat.{ℕᴺ_discrete}
use Rattle.polynomial.specs.Polynomial.{add_exponents, exponent, without, raise, replace}
use Rattle.calculus.specs.Monomial.{zeros, index_of, single}
use Rattle.calculus_laws.specs.MonomialKeyLaws.{exponent_zeros}
use Rattle.calculus_laws.specs.MonomialLaws.{length_zeros, length_replace, length_plus, length_without, raise_replace}
use Rattle.renaming.specs.Reordering.{Reordering, rename, rename_variable}
use Rattle.renaming.specs.ExponentLaws.{same_exponents, length_tabulate, exponent_tabulate, exponent_add}
use Rattle.renaming.specs.ExponentLaws.{exponent_without_here, exponent_without_there, exponent_replace_here}
use Rattle.renaming.specs.ExponentLaws.{exponent_replace_there}

module _ {n : ℕ} (ρ : Reordering n) where
  -- ---- variables
  pub to_injective : (i j : ℕ) → i < n → j < n → ρ.to i ≡ ρ.to j → i ≡ j
  to_injective i j h g e = sym (ρ.from_to i h) ∙ ap ρ.from e ∙ ρ.from_to j g

  pub index_renamed : (v : ℕ) → index_of (rename_variable ρ v) ≡ ρ.to (index_of v)
  unfolding index_of rename_variable
  index_renamed v = refl

  pub renamed_inside : (v : ℕ) → index_of v < n → index_of (rename_variable ρ v) < n
  renamed_inside v h = omega (arith, index_renamed v, ρ.to_inside (index_of v) h)

  -- ---- exponents
  pub length_rename : (k : List ℕ) → length (rename ρ k) ≡ n
  unfolding rename
  length_rename k = length_tabulate n (λ j. exponent (ρ.from j) k)

  -- what comes to place j
  pub exponent_from : (k : List ℕ) (j : ℕ) → j < n → exponent j (rename ρ k) ≡ exponent (ρ.from j) k
  unfolding rename
  exponent_from k j h = exponent_tabulate n (λ j. exponent (ρ.from j) k) j h

  -- the exponent of a renamed variable
  pub exponent_to : (k : List ℕ) (i : ℕ) → i < n → exponent (ρ.to i) (rename ρ k) ≡ exponent i k
  exponent_to k i h = exponent_from k (ρ.to i) (ρ.to_inside i h) ∙ ap (λ j. exponent j k) (ρ.from_to i h)

  -- a list of n exponents is the renamed one, if it has its exponents at their new places
  pub rename_unique : (k l : List ℕ) → length l ≡ n
      → ((i : ℕ) → i < n → exponent (ρ.to i) l ≡ exponent i k) → rename ρ k ≡ l
  rename_unique k l h e = same_exponents n (rename ρ k) l (length_rename k) h
      (λ j g. exponent_from k j g ∙ sym (e (ρ.from j) (ρ.from_inside j g))
      ∙ ap (λ i. exponent i l) (ρ.to_from j g))

  pub rename_injective : (k l : List ℕ) → length k ≡ n → length l ≡ n → rename ρ k ≡ rename ρ l → k ≡ l
  rename_injective k l h g e = same_exponents n k l h g
      (λ i m. sym (exponent_to k i m) ∙ ap (exponent (ρ.to i)) e ∙ exponent_to l i m)

  -- ---- operations
  pub rename_zeros : rename ρ (zeros n) ≡ zeros n
  rename_zeros = rename_unique (zeros n) (zeros n) (length_zeros n)
      (λ i h. exponent_zeros n (ρ.to i) ∙ sym (exponent_zeros n i))

  pub rename_add : (k l : List ℕ) → rename ρ (add_exponents k l) ≡ add_exponents (rename ρ k) (rename ρ l)
  rename_add k l = rename_unique (add_exponents k l) _
      (length_plus (rename ρ k) (rename ρ l) (length_rename k ∙ sym (length_rename l)) ∙ length_rename l)
      (λ i h. exponent_add (ρ.to i) (rename ρ k) (rename ρ l) ∙ ap₂ ◌+◌ (exponent_to k i h) (exponent_to l i h)
      ∙ sym (exponent_add i k l))

  pub rename_without : (i : ℕ) (k : List ℕ) → i < n → rename ρ (without i k) ≡ without (ρ.to i) (rename ρ k)
  rename_without i k h = rename_unique (without i k) _ (length_without (ρ.to i) (rename ρ k) ∙ length_rename k)
      (λ j g. by_place j g (ℕᴺ_discrete i j))
    where
      by_place : (j : ℕ) → j < n → Dec (i ≡ j)
          → exponent (ρ.to j) (without (ρ.to i) (rename ρ k)) ≡ exponent j (without i k)
      by_place j g (yes e) = ap (λ z. exponent (ρ.to z) (without (ρ.to i) (rename ρ k))) (sym e)
          ∙ exponent_without_here (ρ.to i) (rename ρ k) ∙ sym (exponent_without_here i k)
          ∙ ap (λ z. exponent z (without i k)) e
      by_place j g (no e) =
          exponent_without_there (ρ.to i) (ρ.to j) (rename ρ k) (λ q. e (to_injective i j h g q))
          ∙ exponent_to k j g ∙ sym (exponent_without_there i j k e)

  pub rename_replace : (i e : ℕ) (k : List ℕ) → length k ≡ n → i < n
      → rename ρ (replace i e k) ≡ replace (ρ.to i) e (rename ρ k)
  rename_replace i e k l h = rename_unique (replace i e k) _
      (length_replace (ρ.to i) e (rename ρ k) ∙ length_rename k) (λ j g. by_place j g (ℕᴺ_discrete i j))
    where
      inside : ρ.to i < length (rename ρ k)
      inside = omega (arith, length_rename k, ρ.to_inside i h)

      by_place : (j : ℕ) → j < n → Dec (i ≡ j)
          → exponent (ρ.to j) (replace (ρ.to i) e (rename ρ k)) ≡ exponent j (replace i e k)
      by_place j g (yes q) = ap (λ z. exponent (ρ.to z) (replace (ρ.to i) e (rename ρ k))) (sym q)
          ∙ exponent_replace_here (ρ.to i) e (rename ρ k) inside
          ∙ sym (exponent_replace_here i e k (omega (arith, l, h)))
          ∙ ap (λ z. exponent z (replace i e k)) q
      by_place j g (no q) =
          exponent_replace_there (ρ.to i) (ρ.to j) e (rename ρ k) (λ s. q (to_injective i j h g s))
          ∙ exponent_to k j g ∙ sym (exponent_replace_there i j e k q)

  pub rename_raise : (i : ℕ) (k : List ℕ) → length k ≡ n → i < n
      → rename ρ (raise i k) ≡ raise (ρ.to i) (rename ρ k)
  rename_raise i k l h = ap (rename ρ) (raise_replace i k (omega (arith, l, h)))
      ∙ rename_replace i (suc (exponent i k)) k l h
      ∙ ap (λ e. replace (ρ.to i) (suc e) (rename ρ k)) (sym (exponent_to k i h))
      ∙ sym (raise_replace (ρ.to i) (rename ρ k) (omega (arith, length_rename k, ρ.to_inside i h)))

  -- ---- variables by their numbers
  -- the monomial of a variable is that of the renamed one
  pub rename_single : (v : ℕ) → index_of v < n → rename ρ (single n v) ≡ single n (rename_variable ρ v)
  unfolding single
  rename_single v h = rename_replace (index_of v) 1 (zeros n) (length_zeros n) h
      ∙ ap₂ (λ i k. replace i 1 k) (sym (index_renamed v)) rename_zeros

  module _ (v : ℕ) (inside : index_of v < n) where
    -- the exponent of the renamed variable
    pub exponent_renamed : (k : List ℕ)
        → exponent (index_of (rename_variable ρ v)) (rename ρ k) ≡ exponent (index_of v) k
    exponent_renamed k = ap (λ j. exponent j (rename ρ k)) (index_renamed v) ∙ exponent_to k (index_of v) inside

    pub without_renamed : (k : List ℕ)
        → without (index_of (rename_variable ρ v)) (rename ρ k) ≡ rename ρ (without (index_of v) k)
    without_renamed k = ap (λ j. without j (rename ρ k)) (index_renamed v)
        ∙ sym (rename_without (index_of v) k inside)

    pub raise_renamed : (k : List ℕ) → length k ≡ n
        → raise (index_of (rename_variable ρ v)) (rename ρ k) ≡ rename ρ (raise (index_of v) k)
    raise_renamed k l = ap (λ j. raise j (rename ρ k)) (index_renamed v)
        ∙ sym (rename_raise (index_of v) k l inside)
