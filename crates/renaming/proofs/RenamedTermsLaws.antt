-- Renamed terms: their sums, tests and number, and that they are the only canonical terms with their coefficients.
use Rattle.std.specs.Prelude.{◌≡◌, refl, Bool, ℕ, eqb, ℤ, length}
use Rattle.std.proofs.Math.Path.{sym, ap}
use Rattle.std.proofs.Common.{◌∙◌, ap₂, subst, eqb→eq}
use Rattle.std.proofs.Math.Bool.{not}
use mathlib.Core.List.{List, [], ◌∷◌}
use Rattle.std.proofs.Math.Dec.{T, eqb_refl, T_not, not_T}
use Rattle.std.proofs.Math.IntN.{nat_abs}
use Rattle.algebra.specs.LexicographicLaws.{same_ok, same_refl}
use Rattle.calculus.specs.Monomial.{same}
use Rattle.calculus.specs.Terms.{Terms, every, select, size, map_monomials, rising, is_nonzero, nonzero, absent}
use Rattle.calculus.specs.Terms.{distinct}
use Rattle.calculus_laws.specs.TestLaws.{and_left, and_right, both}
use Rattle.calculus_laws.specs.TermsLaws.{every_head, every_tail, every_nil, every_cons, every_select, every_collect}
use Rattle.calculus_laws.specs.TermsLaws.{every_map_monomials, rising_select, rising_collect}
use Rattle.calculus_laws.specs.SumLaws.{Addition, ℕ_addition, ℤ_addition, if_so, sum, sum_select, sum_map_monomials}
use Rattle.calculus_laws.specs.CanonicalLaws.{at_monomial, coefficient_at, coefficient_collect, rising_distinct}
use Rattle.calculus_laws.specs.CanonicalLaws.{canonical_unique, sum_collect_distinct}
use Rattle.renaming.specs.Reordering.{Reordering, rename, rename_terms}
use Rattle.renaming.specs.Additions.{both_tests}
use Rattle.renaming.specs.TermSumLaws.{every_sum, length_sum, sum_agree}
use Rattle.renaming.proofs.RenamedMonomialLaws.{length_rename, rename_injective}

-- ---- terms in n variables, in order
-- n exponents
abbrev pub long : ℕ → List ℕ → Bool
long n k = eqb (length k) n

-- every monomial has n exponents
abbrev pub Long : ℕ → Terms → Type 0
Long n p = T (every (λ k c. long n k) p)

pub record InOrder (n : ℕ) (p : Terms) : Type 0 where
  pub all_long : Long n p
  pub all_rising : T (rising p)

pub select_in_order : (n : ℕ) (f : List ℕ → ℤ → Bool) (p : Terms) → InOrder n p → InOrder n (select f p)
select_in_order n f p h = record {
  all_long = every_select (λ k c. long n k) f p h.all_long;
  all_rising = rising_select f p h.all_rising;
}

pub select_nonzero : (f : List ℕ → ℤ → Bool) (p : Terms) → T (nonzero p) → T (nonzero (select f p))
unfolding nonzero
select_nonzero f p h = every_select (λ k c. is_nonzero c) f p h

module _ {n : ℕ} (ρ : Reordering n) where
  -- what is asked of a term does not change when it is renamed
  abbrev pub Symmetric : {A : Type 0} → (List ℕ → ℤ → A) → Type 0
  Symmetric g = (k : List ℕ) (c : ℤ) → length k ≡ n → g (rename ρ k) c ≡ g k c

  -- ---- each monomial still stands once
  absent_renamed : (k : List ℕ) → length k ≡ n → (p : Terms) → Long n p → T (absent k p)
      → T (absent (rename ρ k) (map_monomials (rename ρ) p))
  unfolding absent map_monomials
  absent_renamed k e [] h a = every_nil (λ j c. not (same (rename ρ k) j))
  absent_renamed k e (t ∷ p) h a = every_cons (λ j c. not (same (rename ρ k) j)) _ _
      (not_T (same (rename ρ k) (rename ρ t.exponents)) other)
      (absent_renamed k e p (every_tail (λ k c. long n k) t p h) (every_tail (λ j c. not (same k j)) t p a))
    where
      other : T (same (rename ρ k) (rename ρ t.exponents)) → ⊥
      other s = T_not (same k t.exponents) (every_head (λ j c. not (same k j)) t p a)
          (subst (λ j. T (same k j)) (rename_injective ρ k t.exponents e
          (eqb→eq (length t.exponents) n (every_head (λ k c. long n k) t p h)) (same_ok _ _ s)) (same_refl k))

  distinct_renamed : (p : Terms) → Long n p → T (distinct p) → T (distinct (map_monomials (rename ρ) p))
  unfolding distinct map_monomials
  distinct_renamed [] h d = tt
  distinct_renamed (t ∷ p) h d = both (absent (rename ρ t.exponents) (map_monomials (rename ρ) p)) _
      (absent_renamed t.exponents (eqb→eq (length t.exponents) n (every_head (λ k c. long n k) t p h)) p
      (every_tail (λ k c. long n k) t p h) (and_left (absent t.exponents p) _ d))
      (distinct_renamed p (every_tail (λ k c. long n k) t p h) (and_right (absent t.exponents p) _ d))

  -- ---- sums
  module _ (p : Terms) (h : InOrder n p) where
    pub renamed_distinct : T (distinct (map_monomials (rename ρ) p))
    renamed_distinct = distinct_renamed p h.all_long (rising_distinct p h.all_rising)

    -- a sum over renamed terms
    pub sum_renamed : {A : Type 0} (N : Addition A) (g : List ℕ → ℤ → A)
        → sum N g (rename_terms ρ p) ≡ sum N (λ k c. g (rename ρ k) c) p
    unfolding rename_terms
    sum_renamed N g = sum_collect_distinct N g (map_monomials (rename ρ) p) renamed_distinct
        ∙ sum_map_monomials N g (rename ρ) p

    -- which does not change, if what is summed is symmetric
    pub sum_symmetric : {A : Type 0} (N : Addition A) (g : List ℕ → ℤ → A) → Symmetric g
        → sum N g (rename_terms ρ p) ≡ sum N g p
    sum_symmetric N g s = sum_renamed N g
        ∙ sum_agree N (λ k c. long n k) (λ k c. g (rename ρ k) c) g (λ k c t. s k c (eqb→eq (length k) n t)) p
        h.all_long

    pub every_symmetric : (f : List ℕ → ℤ → Bool) → Symmetric f → every f (rename_terms ρ p) ≡ every f p
    every_symmetric f s = every_sum f (rename_terms ρ p) ∙ sum_symmetric both_tests f s ∙ sym (every_sum f p)

    pub length_renamed : length (rename_terms ρ p) ≡ length p
    length_renamed = length_sum (rename_terms ρ p) ∙ sum_symmetric ℕ_addition (λ k c. 1) (λ k c e. refl)
        ∙ sym (length_sum p)

    pub size_renamed : size (rename_terms ρ p) ≡ size p
    unfolding size
    size_renamed = sum_symmetric ℕ_addition (λ k c. nat_abs c) (λ k c e. refl)

    -- of those selected by a symmetric test
    pub sum_select_symmetric : {A : Type 0} (N : Addition A) (g : List ℕ → ℤ → A) → Symmetric g
        → (f : List ℕ → ℤ → Bool) → Symmetric f
        → sum N g (select f (rename_terms ρ p)) ≡ sum N g (select f p)
    sum_select_symmetric N g s f u = sum_select N g f (rename_terms ρ p)
        ∙ sum_symmetric N (λ k c. if_so N (f k c) (g k c)) (λ k c e. ap₂ (if_so N) (u k c e) (s k c e))
        ∙ sym (sum_select N g f p)

    -- ---- the canonical form
    pub renamed_nonzero : T (nonzero p) → T (nonzero (rename_terms ρ p))
    unfolding nonzero
    renamed_nonzero z = rw (every_symmetric (λ k c. is_nonzero c) (λ k c e. refl)) z

    pub renamed_in_order : InOrder n (rename_terms ρ p)
    unfolding rename_terms
    renamed_in_order = record {
      all_long = every_collect (long n) _ (every_map_monomials (λ k c. long n k) (rename ρ)
          (λ k c t. rw (length_rename ρ k) (eqb_refl n)) p h.all_long);
      all_rising = rising_collect (map_monomials (rename ρ) p);
    }

  -- the coefficient at k after renaming
  abbrev pub renamed_at : List ℕ → Terms → ℤ
  renamed_at k = sum ℤ_addition (λ j c. at_monomial k (rename ρ j) c)

  pub coefficient_renamed : (k : List ℕ) (p : Terms) → coefficient_at (rename_terms ρ p) k ≡ renamed_at k p
  unfolding rename_terms
  coefficient_renamed k p = coefficient_collect k (map_monomials (rename ρ) p)
      ∙ (unfold coefficient_at in sum_map_monomials ℤ_addition (at_monomial k) (rename ρ) p)

  -- rising nonzero terms with the coefficients of renamed terms are the renamed terms
  pub renamed_unique : (p : Terms) → InOrder n p → T (nonzero p) → (q : Terms) → T (rising q) → T (nonzero q)
      → ((k : List ℕ) → coefficient_at q k ≡ renamed_at k p) → q ≡ rename_terms ρ p
  renamed_unique p h z q r w e = canonical_unique q (rename_terms ρ p) r (renamed_in_order p h).all_rising w
      (renamed_nonzero p h z) (λ k. e k ∙ sym (coefficient_renamed k p))

  -- ---- selected terms
  -- by a test f, and after renaming by a test g that says the same
  pub select_by_renamed : (f g : List ℕ → ℤ → Bool) → ((k : List ℕ) (c : ℤ) → length k ≡ n → g (rename ρ k) c ≡ f k c)
      → (p : Terms) → InOrder n p → T (nonzero p) → select g (rename_terms ρ p) ≡ rename_terms ρ (select f p)
  select_by_renamed f g s p h z = renamed_unique (select f p) (select_in_order n f p h) (select_nonzero f p z)
      (select g (rename_terms ρ p)) (rising_select g _ (renamed_in_order p h).all_rising)
      (select_nonzero g _ (renamed_nonzero p h z)) coefficients
    where
      coefficients : (k : List ℕ) → coefficient_at (select g (rename_terms ρ p)) k ≡ renamed_at k (select f p)
      coefficients k = unfold coefficient_at in
          (sum_select ℤ_addition (at_monomial k) g (rename_terms ρ p)
          ∙ sum_renamed p h ℤ_addition (λ j c. if_so ℤ_addition (g j c) (at_monomial k j c))
          ∙ sum_agree ℤ_addition (λ k c. long n k)
          (λ j c. if_so ℤ_addition (g (rename ρ j) c) (at_monomial k (rename ρ j) c))
          (λ j c. if_so ℤ_addition (f j c) (at_monomial k (rename ρ j) c))
          (λ j c t. ap (λ b. if_so ℤ_addition b (at_monomial k (rename ρ j) c)) (s j c (eqb→eq (length j) n t)))
          p h.all_long
          ∙ sym (sum_select ℤ_addition (λ j c. at_monomial k (rename ρ j) c) f p))

  pub select_renamed : (f : List ℕ → ℤ → Bool) → Symmetric f → (p : Terms) → InOrder n p → T (nonzero p)
      → select f (rename_terms ρ p) ≡ rename_terms ρ (select f p)
  select_renamed f s = select_by_renamed f f s
