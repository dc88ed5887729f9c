-- The antiderivative of a model term by term: its coefficients, its growths, and that they are no more than what was
-- there, so that it never passes a limit.
use Rattle.std.specs.Prelude.{◌≡◌, Bool, not, eqb, leb, pos, length}
use Rattle.std.proofs.Math.Path.{refl, ap, ap₂}
use Rattle.std.proofs.Common.{◌∙◌, ne_eqb}
use Rattle.std.proofs.Math.Bool.{true, false}
use mathlib.Core.List.{List, [], ◌∷◌, map}
use Prim.Native.Nat.{ℕ, zero, suc, ◌+◌, ◌%◌, ◌≤◌, ◌<◌}
use native.Mathlib.Omega.{arith}
use Rattle.std.proofs.Math.IntN.{ℤ, nat_abs}
use Rattle.std.proofs.lemmas.List.{length-map}
use Rattle.polynomial.specs.Polynomial.{Term, exponent, raise}
use Rattle.polynomial.proofs.VariableAntiderivativeLaws.{exponent_raise}
use Rattle.numbers.specs.Division.{divided_up, nearest}
use Rattle.numbers.proofs.DivisionLaws.{divided_up_le}
use Rattle.numbers.proofs.NearestLaws.{nearest_le_abs, nearest_shrinks}
use Rattle.calculus.specs.Monomial.{degree, index_of}
use Rattle.calculus.specs.Terms.{Terms, term, select, sum_over, sum_ℕ, size, map_terms, map_monomials}
use Rattle.calculus.specs.Terms.{is_nonzero, drop_zeros}
use Rattle.calculus.specs.Model.{Model}
use Rattle.calculus.specs.Operations.{within_order, above_order, raised, divided, is_inexact, growth_rounding}
use Rattle.calculus.specs.Operations.{growth_swept, antiderivative}
use Rattle.calculus_laws.specs.TermsLaws.{length_select}
use Rattle.calculus_laws.specs.SumLaws.{Addition, ℕ_addition, if_so, if_ℕ, if_ℤ, sum_drop_zeros, sum_map_terms}
use Rattle.calculus_laws.specs.SumLaws.{sum_select, sum_map_monomials, sum_both, sum_mono}

module _ (d i : ℕ) where
  -- the monomial with the exponent of variable i one higher
  abbrev pub up : List ℕ → List ℕ
  up = raise (index_of i)

  -- k, its new exponent
  abbrev pub new_exponent : List ℕ → ℕ
  new_exponent k = exponent (index_of i) (up k)

  -- whether its new degree is at most d
  abbrev pub stays : List ℕ → Bool
  stays k = leb (degree (up k)) d

  pub new_exponent_pos : (k : List ℕ) → 0 < new_exponent k
  new_exponent_pos k = let e = exponent_raise (index_of i) k in omega arith

  -- ---- as sums over the terms of f
  pub divided_sum : {A : Type 0} (N : Addition A) (g : List ℕ → ℤ → A) → ((k : List ℕ) → g k (pos 0) ≡ N.nothing)
      → (f : Model) → sum_over N.plus N.nothing g (antiderivative d i f).terms
      ≡ sum_over N.plus N.nothing (λ k c. if_so N (stays k) (g (up k) (nearest c (new_exponent k)))) f.terms
  unfolding antiderivative divided within_order raised
  divided_sum N g z f = sum_drop_zeros N g z _ ∙ sum_map_terms N g _ _ ∙ sum_select N _ _ _
      ∙ sum_map_monomials N _ up f.terms

  -- what one term adds to the radius by rounding
  abbrev pub rounding_of : List ℕ → ℤ → ℕ
  rounding_of k c = if_ℕ (stays k) (if_ℕ (is_inexact i (up k) c) 1)

  pub rounding_sum : (f : Model) → growth_rounding d i f ≡ sum_ℕ rounding_of f.terms
  unfolding growth_rounding within_order raised
  rounding_sum f = sum_select ℕ_addition _ _ _ ∙ sum_select ℕ_addition _ _ _
      ∙ sum_map_monomials ℕ_addition _ up f.terms

  -- and by being swept
  abbrev pub swept_of : List ℕ → ℤ → ℕ
  swept_of k c = if_ℕ (not (stays k)) (divided_up (nat_abs c) (new_exponent k))

  pub swept_sum : (f : Model) → growth_swept d i f ≡ sum_ℕ swept_of f.terms
  unfolding growth_swept above_order raised
  swept_sum f = sum_select ℕ_addition _ _ _ ∙ sum_map_monomials ℕ_addition _ up f.terms

  -- both together
  pub growth_sum : (f : Model) → growth_rounding d i f + growth_swept d i f
      ≡ sum_ℕ (λ k c. rounding_of k c + swept_of k c) f.terms
  growth_sum f = ap₂ ◌+◌ (rounding_sum f) (swept_sum f) ∙ sum_both ℕ_addition rounding_of swept_of f.terms

  -- ---- as terms: those that are swept have the coefficient 0, and are dropped with the zeros
  abbrev pub new_coefficient : List ℕ → ℤ → ℤ
  new_coefficient k c = if_ℤ (stays k) (nearest c (new_exponent k))

  abbrev pub new_term : Term ℤ → Term ℤ
  new_term t = term (new_coefficient t.exponents t.coefficient) (up t.exponents)

  -- a term raised, and divided
  abbrev raised_term : Term ℤ → Term ℤ
  raised_term t = term t.coefficient (up t.exponents)

  abbrev divided_term : Term ℤ → Term ℤ
  divided_term t = term (nearest t.coefficient (exponent (index_of i) t.exponents)) t.exponents

  -- those of degree at most d, and those that are not 0
  abbrev inside : Terms → Terms
  inside = select (λ k c. leb (degree k) d)

  abbrev present : Terms → Terms
  present = select (λ k c. is_nonzero c)

  new_terms : (p : Terms) → present (map divided_term (inside (map raised_term p))) ≡ present (map new_term p)
  unfolding select if_so is_nonzero
  new_terms [] = refl
  new_terms (t ∷ p) = go (stays t.exponents) (new_terms p)
    where
      q : ℤ
      q = nearest t.coefficient (new_exponent t.exponents)

      go : (b : Bool) → present (map divided_term (inside (map raised_term p))) ≡ present (map new_term p)
          → present (map divided_term (elim b as (λ b. Terms) [
            | true ↦ raised_term t ∷ inside (map raised_term p)
            | false ↦ inside (map raised_term p)
          ]))
          ≡ elim (is_nonzero (if_ℤ b q)) as (λ b. Terms) [
            | true ↦ term (if_ℤ b q) (up t.exponents) ∷ present (map new_term p)
            | false ↦ present (map new_term p)
          ]
      go true h = ap (λ l. elim (is_nonzero q) as (λ b. Terms) [
        | true ↦ term q (up t.exponents) ∷ l
        | false ↦ l
      ]) h
      go false h = h

  pub antiderivative_terms : (f : Model) → (antiderivative d i f).terms ≡ drop_zeros (map new_term f.terms)
  unfolding antiderivative drop_zeros divided within_order raised map_terms map_monomials
  antiderivative_terms f = new_terms f.terms

  -- ---- no more than what was there
  -- a quotient and 1, if it is not exact, are at most |c|
  inexact_le : (c : ℤ) (k : ℕ) → 0 < k → nat_abs (nearest c k) + if_ℕ (not (eqb (nat_abs c % k) 0)) 1 ≤ nat_abs c
  unfolding if_so
  inexact_le c k h = go (nat_abs c % k) refl
    where
      go : (r : ℕ) → nat_abs c % k ≡ r → nat_abs (nearest c k) + if_ℕ (not (eqb r 0)) 1 ≤ nat_abs c
      go zero e = let l = nearest_le_abs c k h in omega arith
      go (suc r) e = let l = nearest_shrinks c k h (omega arith) in
          let one : if_ℕ (not (eqb (suc r) 0)) 1 ≡ 1
          = ap (λ b. if_ℕ (not b) 1) (ne_eqb (suc r) 0 (λ z. omega arith)) in
          omega arith

  -- what one term adds to the radius
  abbrev pub growth_of : List ℕ → ℤ → ℕ
  growth_of k c = rounding_of k c + swept_of k c

  share : List ℕ → ℤ → ℕ
  share k c = if_ℕ (stays k) (nat_abs (nearest c (new_exponent k))) + growth_of k c

  share_le : (k : List ℕ) (c : ℤ) → share k c ≤ nat_abs c
  unfolding share if_so is_inexact
  share_le k c = go (stays k)
    where
      go : (b : Bool) → if_ℕ b (nat_abs (nearest c (new_exponent k)))
          + (if_ℕ b (if_ℕ (not (eqb (nat_abs c % new_exponent k) 0)) 1)
          + if_ℕ (not b) (divided_up (nat_abs c) (new_exponent k))) ≤ nat_abs c
      go true = let l = inexact_le c (new_exponent k) (new_exponent_pos k) in omega arith
      go false = let l = divided_up_le (nat_abs c) (new_exponent k) (new_exponent_pos k) in omega arith

  pub growth_of_le : (k : List ℕ) (c : ℤ) → growth_of k c ≤ nat_abs c
  unfolding share
  growth_of_le k c = let h = share_le k c in omega arith

  pub growth_le : (f : Model)
      → size (antiderivative d i f).terms + (growth_rounding d i f + growth_swept d i f) ≤ size f.terms
  unfolding size share
  growth_le f = let e = ap₂ ◌+◌ (divided_sum ℕ_addition (λ k c. nat_abs c) (λ k. refl) f) (growth_sum f)
      ∙ sum_both ℕ_addition _ _ f.terms in
      let l = sum_mono share (λ k c. nat_abs c) share_le f.terms in omega arith

-- ---- no more terms
length_chain : (f g : List ℕ → ℤ → Bool) (u w : Term ℤ → Term ℤ) (p : Terms)
    → length (select f (map u (select g (map w p)))) ≤ length p
length_chain f g u w p =
    let a = length_select f (map u (select g (map w p))) in
    let b = length-map (select g (map w p)) u in
    let c = length_select g (map w p) in
    let e = length-map p w in
    omega arith

pub antiderivative_length : (d i : ℕ) (f : Model) → length (antiderivative d i f).terms ≤ length f.terms
unfolding antiderivative drop_zeros divided within_order raised map_terms map_monomials
antiderivative_length d i f = length_chain _ _ _ _ f.terms
