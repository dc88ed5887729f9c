-- Sums over terms, by any commutative addition.
use Rattle.std.specs.Prelude.{◌≡◌, Bool, not, ℕ, ◌+◌, ◌≤◌, ℤ, pos, ◌+ℤ◌}
use Rattle.std.proofs.Math.Path.{refl, sym, ap, fun_ext}
use Rattle.std.proofs.Common.{◌∙◌, arith}
use Rattle.std.proofs.Math.Bool.{true, false}
use mathlib.Core.List.{List, [], ◌∷◌, ◌++◌}
use Rattle.algebra.specs.Ring.{Ring}
use Rattle.algebra.specs.RingLaws.{zero-+}
use Rattle.algebra.specs.IntegerRing.{ℤR}
use Rattle.algebra.proofs.Rational.{ℚ}
use Rattle.algebra.proofs.RationalRing.{ℚR}
use Rattle.polynomial.specs.Polynomial.{Term}
use Rattle.calculus.specs.Terms.{Terms, select, sum_over, sum_ℕ, map_coefficients, map_terms, map_monomials}
use Rattle.calculus.specs.Terms.{is_nonzero, drop_zeros, insert, collect}
use Rattle.calculus_laws.specs.TermsLaws.{by_select, by_insert, zero_coefficient}

-- a commutative addition with its zero
pub record Addition (A : Type 0) : Type 0 where
  pub plus : A → A → A
  pub nothing : A
  pub plus_nothing : (x : A) → plus nothing x ≡ x
  pub plus_comm : (x y : A) → plus x y ≡ plus y x
  pub plus_assoc : (x y z : A) → plus (plus x y) z ≡ plus x (plus y z)

-- that of the natural numbers
abbrev pub ℕ_addition : Addition ℕ
ℕ_addition = record {
  plus = ◌+◌;
  nothing = 0;
  plus_nothing = λ x. omega arith;
  plus_comm = λ x y. omega arith;
  plus_assoc = λ x y z. omega arith;
}

-- that of a ring
abbrev pub ring_addition : (R : Ring) → Addition R.Carrier
ring_addition R = record {
  plus = R.◌+◌;
  nothing = R.0#;
  plus_nothing = zero-+ R;
  plus_comm = R.+_comm;
  plus_assoc = R.+_assoc;
}

-- those of the integers and of the fractions
abbrev pub ℤ_addition : Addition ℤ
ℤ_addition = ring_addition ℤR

abbrev pub ℚ_addition : Addition ℚ
ℚ_addition = ring_addition ℚR

module _ {A : Type 0} (N : Addition A) where
  open N use {plus, nothing, plus_nothing, plus_comm, plus_assoc}

  pub plus_swap : (x y z : A) → plus x (plus y z) ≡ plus y (plus x z)
  plus_swap x y z = sym (plus_assoc x y z) ∙ ap (λ w. plus w z) (plus_comm x y) ∙ plus_assoc y x z

  module _ (g : List ℕ → ℤ → A) where
    -- the sum of g, and g of one term
    abbrev pub sum : Terms → A
    sum = sum_over plus nothing g

    abbrev pub at_term : Term ℤ → A
    at_term t = g t.exponents t.coefficient

    pub sum_nil : sum [] ≡ nothing
    unfolding sum_over
    sum_nil = refl

    pub sum_cons : (t : Term ℤ) (p : Terms) → sum (t ∷ p) ≡ plus (at_term t) (sum p)
    unfolding sum_over
    sum_cons t p = refl

    pub sum-++ : (p q : Terms) → sum (p ++ q) ≡ plus (sum p) (sum q)
    unfolding sum_over
    sum-++ [] q = sym (plus_nothing (sum q))
    sum-++ (t ∷ p) q = ap (plus (at_term t)) (sum-++ p q) ∙ sym (plus_assoc _ _ _)

    -- one more term at the end
    pub sum_snoc : (p : Terms) (t : Term ℤ) → sum (p ++ (t ∷ [])) ≡ plus (sum p) (at_term t)
    sum_snoc p t = sum-++ p (t ∷ [])
        ∙ ap (plus (sum p)) (sum_cons t [] ∙ ap (plus (at_term t)) sum_nil ∙ plus_comm _ _ ∙ plus_nothing _)

    -- those selected and the others
    pub sum_split : (f : List ℕ → ℤ → Bool) (p : Terms)
        → sum p ≡ plus (sum (select f p)) (sum (select (λ k c. not (f k c)) p))
    unfolding sum_over select
    sum_split f [] = sym (plus_nothing nothing)
    sum_split f (t ∷ p) = go (f t.exponents t.coefficient) (sum_split f p)
      where
        some : Terms
        some = select f p

        others : Terms
        others = select (λ k c. not (f k c)) p

        go : (b : Bool) → sum p ≡ plus (sum some) (sum others) → plus (at_term t) (sum p)
            ≡ plus (sum (elim b as (λ b. Terms) [ true ↦ t ∷ some | false ↦ some ]))
            (sum (elim (not b) as (λ b. Terms) [ true ↦ t ∷ others | false ↦ others ]))
        go true ih = ap (plus (at_term t)) ih ∙ sym (plus_assoc _ _ _)
        go false ih = ap (plus (at_term t)) ih ∙ plus_swap _ _ _

    -- what is nothing at coefficient 0 does not miss the zeros
    pub sum_drop_zeros : ((k : List ℕ) → g k (pos 0) ≡ nothing) → (p : Terms) → sum (drop_zeros p) ≡ sum p
    unfolding drop_zeros sum_over
    sum_drop_zeros z [] = unfold select in refl
    sum_drop_zeros z (t ∷ p) = go (sum_drop_zeros z p)
      where
        kept : Terms
        kept = select (λ k c. is_nonzero c) p

        go : sum kept ≡ sum p → sum (select (λ k c. is_nonzero c) (t ∷ p)) ≡ plus (at_term t) (sum p)
        go ih = by_select (λ q. sum q ≡ plus (at_term t) (sum p)) (λ k c. is_nonzero c) t p
            (λ y. ap (plus (at_term t)) ih)
            (λ n. ih ∙ sym (ap (λ x. plus x (sum p)) (ap (g t.exponents) (zero_coefficient t.coefficient n) ∙ z _)
            ∙ plus_nothing _))

    -- what is additive in the coefficient does not mind collecting
    module _ (additive : (k : List ℕ) (c d : ℤ) → g k (c +ℤ d) ≡ plus (g k c) (g k d)) where
      sum_insert : (t : Term ℤ) (p : Terms) → sum (insert t p) ≡ plus (at_term t) (sum p)
      sum_insert t [] = unfold insert sum_over in refl
      sum_insert t (s ∷ p) = go (sum_insert t p)
        where
          joined : t.exponents ≡ s.exponents
              → plus (g s.exponents (t.coefficient +ℤ s.coefficient)) (sum p)
              ≡ plus (at_term t) (plus (at_term s) (sum p))
          joined e = ap (λ x. plus x (sum p)) (additive s.exponents t.coefficient s.coefficient)
              ∙ plus_assoc _ _ _
              ∙ ap (λ k. plus (g k t.coefficient) (plus (at_term s) (sum p))) (sym e)

          go : sum (insert t p) ≡ plus (at_term t) (sum p) → sum (insert t (s ∷ p)) ≡ plus (at_term t) (sum (s ∷ p))
          go ih = unfold sum_over in by_insert (λ q. sum q ≡ plus (at_term t) (plus (at_term s) (sum p))) t s p joined
              (λ l. refl)
              (λ l. ap (plus (at_term s)) ih ∙ plus_swap _ _ _)

      pub sum_collect : (p : Terms) → sum (collect p) ≡ sum p
      unfolding collect
      sum_collect [] = refl
      sum_collect (t ∷ p) = sum_insert t (collect p) ∙ ap (plus (at_term t)) (sum_collect p) ∙ sym (sum_cons t p)

  -- of those selected: nothing for the others
  unfoldable pub if_so : Bool → A → A
  if_so true x = x
  if_so false x = nothing

  pub if_so_nothing : (b : Bool) → if_so b nothing ≡ nothing
  unfolding if_so
  if_so_nothing true = refl
  if_so_nothing false = refl

  pub sum_select : (g : List ℕ → ℤ → A) (f : List ℕ → ℤ → Bool) (p : Terms)
      → sum_over plus nothing g (select f p) ≡ sum_over plus nothing (λ k c. if_so (f k c) (g k c)) p
  unfolding sum_over select if_so
  sum_select g f [] = refl
  sum_select g f (t ∷ p) = go (f t.exponents t.coefficient) (sum_select g f p)
    where
      rest : A
      rest = sum_over plus nothing (λ k c. if_so (f k c) (g k c)) p

      go : (b : Bool) → sum g (select f p) ≡ rest
          → sum g (elim b as (λ b. Terms) [ true ↦ t ∷ select f p | false ↦ select f p ])
          ≡ plus (if_so b (at_term g t)) rest
      go true ih = ap (plus (at_term g t)) ih
      go false ih = ih ∙ sym (plus_nothing rest)

  -- all or nothing
  pub sum_if_so : (g : List ℕ → ℤ → A) (b : Bool) (p : Terms)
      → sum_over plus nothing (λ k c. if_so b (g k c)) p ≡ if_so b (sum_over plus nothing g p)
  unfolding if_so
  sum_if_so g true p = refl
  sum_if_so g false [] = unfold sum_over in refl
  sum_if_so g false (t ∷ p) = sum_cons (λ k c. nothing) t p ∙ plus_nothing _ ∙ sum_if_so g false p

  pub sum_cong : (g h : List ℕ → ℤ → A) → ((k : List ℕ) (c : ℤ) → g k c ≡ h k c)
      → (p : Terms) → sum_over plus nothing g p ≡ sum_over plus nothing h p
  sum_cong g h e p = ap (λ u. sum_over plus nothing u p) (fun_ext (λ k. fun_ext (e k)))

  pub sum_map_coefficients : (g : List ℕ → ℤ → A) (u : ℤ → ℤ) (p : Terms)
      → sum_over plus nothing g (map_coefficients u p) ≡ sum_over plus nothing (λ k c. g k (u c)) p
  unfolding sum_over map_coefficients
  sum_map_coefficients g u [] = refl
  sum_map_coefficients g u (t ∷ p) = ap (plus (g t.exponents (u t.coefficient))) (sum_map_coefficients g u p)

  pub sum_map_terms : (g : List ℕ → ℤ → A) (u : List ℕ → ℤ → ℤ) (p : Terms)
      → sum_over plus nothing g (map_terms u p) ≡ sum_over plus nothing (λ k c. g k (u k c)) p
  unfolding sum_over map_terms
  sum_map_terms g u [] = refl
  sum_map_terms g u (t ∷ p) =
      ap (plus (g t.exponents (u t.exponents t.coefficient))) (sum_map_terms g u p)

  -- two sums are one
  pub sum_both : (g h : List ℕ → ℤ → A) (p : Terms)
      → plus (sum_over plus nothing g p) (sum_over plus nothing h p)
      ≡ sum_over plus nothing (λ k c. plus (g k c) (h k c)) p
  unfolding sum_over
  sum_both g h [] = plus_nothing nothing
  sum_both g h (t ∷ p) = plus_assoc _ _ _ ∙ ap (plus (at_term g t)) (plus_swap _ _ _) ∙ sym (plus_assoc _ _ _)
      ∙ ap (plus (plus (at_term g t) (at_term h t))) (sum_both g h p)

  pub sum_map_monomials : (g : List ℕ → ℤ → A) (u : List ℕ → List ℕ) (p : Terms)
      → sum_over plus nothing g (map_monomials u p) ≡ sum_over plus nothing (λ k c. g (u k) c) p
  unfolding sum_over map_monomials
  sum_map_monomials g u [] = refl
  sum_map_monomials g u (t ∷ p) = ap (plus (g (u t.exponents) t.coefficient)) (sum_map_monomials g u p)

-- sums of naturals keep the order
pub sum_mono : (g h : List ℕ → ℤ → ℕ) → ((k : List ℕ) (c : ℤ) → g k c ≤ h k c)
    → (p : Terms) → sum_ℕ g p ≤ sum_ℕ h p
unfolding sum_over
sum_mono g h l [] = omega arith
sum_mono g h l (t ∷ p) =
    let e = l t.exponents t.coefficient in let k = sum_mono g h l p in omega arith

-- a natural, or 0
abbrev pub if_ℕ : Bool → ℕ → ℕ
if_ℕ = if_so ℕ_addition

-- an integer, or 0
abbrev pub if_ℤ : Bool → ℤ → ℤ
if_ℤ = if_so ℤ_addition

-- a fraction, or 0
abbrev pub if_ℚ : Bool → ℚ → ℚ
if_ℚ = if_so ℚ_addition
