-- The terms of a sum, one at a time: what comes first, and the rest.
use Rattle.std.specs.Prelude.{◌≡◌, Bool, true, false, List, [], ◌∷◌, ◌++◌, ℕ, zero, suc, T, ℤ, ◌+ℤ◌, drop}
use Rattle.std.proofs.Math.Path.{refl}
use Rattle.std.proofs.Common.{sym, ◌∙◌, ap, subst}
use Rattle.std.proofs.Math.IntN.{+ℤ_comm}
use Rattle.algebra.specs.LexicographicLaws.{less_irrefl, less_trans}
use Rattle.algebra.specs.RingSolver.{◌⊞◌, ring}
use Rattle.algebra.specs.IntegerRing.{ℤR}
use Rattle.polynomial.specs.Polynomial.{Term}
use Rattle.calculus.specs.Monomial.{less}
use Rattle.calculus.specs.Terms.{Terms, term, every, select, rising_from, rising, is_nonzero, drop_zeros}
use Rattle.calculus.specs.Terms.{insert, collect}
use Rattle.calculus_laws.specs.TermsLaws.{by_insert, every_head, every_tail, every_nil, every_cons, every-++}
use Rattle.calculus_laws.specs.TermsLaws.{every_collect, rising_head, rising_rest, rising_below, rising_any}
use Rattle.calculus_laws.specs.CanonicalLaws.{coefficient_at, share, at_additive, coefficient_cons, coefficient-++}
use Rattle.calculus_laws.specs.CanonicalLaws.{canonical_same}
use Rattle.model_types.specs.ModelStructLaws.{select-++}

-- the terms of a sum
abbrev pub sum_terms : Terms → Terms → Terms
sum_terms p q = drop_zeros (collect (p ++ q))

-- a term, or nothing for a zero
abbrev pub unless_zero : Term ℤ → Terms
unless_zero t = drop_zeros (t ∷ [])

pub zero_dropped : (t : Term ℤ) → is_nonzero t.coefficient ≡ false → unless_zero t ≡ []
unfolding drop_zeros select
zero_dropped t z = ap (λ b. elim b as (λ b. Terms) [ true ↦ t ∷ [] | false ↦ [] ]) z

pub nonzero_kept : (t : Term ℤ) → is_nonzero t.coefficient ≡ true → unless_zero t ≡ t ∷ []
unfolding drop_zeros select
nonzero_kept t z = ap (λ b. elim b as (λ b. Terms) [ true ↦ t ∷ [] | false ↦ [] ]) z

-- every monomial is above k
abbrev pub Above : List ℕ → Terms → Type 0
Above k p = T (every (λ j c. less k j) p)

pub rising_above : (k : List ℕ) (p : Terms) → T (rising_from k p) → Above k p
rising_above k [] h = every_nil (λ j c. less k j)
rising_above k (t ∷ p) h = every_cons (λ j c. less k j) t p (rising_head k t p h)
    (rising_above k p (rising_below k t.exponents p (rising_head k t p h) (rising_rest k t p h)))

-- ---- what is left of a list
pub every_drop : (f : List ℕ → ℤ → Bool) (i : ℕ) (p : Terms) → T (every f p) → T (every f (drop i p))
every_drop f zero p h = h
every_drop f (suc i) [] h = h
every_drop f (suc i) (t ∷ p) h = every_drop f i p (every_tail f t p h)

pub rising_drop : (i : ℕ) (p : Terms) → T (rising p) → T (rising (drop i p))
rising_drop zero p h = h
rising_drop (suc i) [] h = h
rising_drop (suc i) (t ∷ p) h = rising_drop i p (rising_any t.exponents p (unfold rising in h))

-- ---- one term of a sum
-- a term below all others is put before them
pub insert_first : (t : Term ℤ) (p : Terms) → Above t.exponents p → insert t p ≡ t ∷ p
insert_first t [] h = unfold insert in refl
insert_first t (s ∷ p) h = by_insert (λ q. q ≡ t ∷ (s ∷ p)) t s p
    (λ e. absurd (less_irrefl t.exponents (subst (λ k. T (less t.exponents k)) (sym e) before)))
    (λ l. refl)
    (λ l. absurd (less_irrefl t.exponents (less_trans t.exponents s.exponents t.exponents before l)))
  where
    before : T (less t.exponents s.exponents)
    before = every_head (λ j c. less t.exponents j) s p h

-- and is the first of the sum
pub first_term : (t : Term ℤ) (p q : Terms) → Above t.exponents p → Above t.exponents q
    → sum_terms (t ∷ p) q ≡ unless_zero t ++ sum_terms p q
unfolding drop_zeros collect
first_term t p q a b =
    ap drop_zeros (insert_first t (collect (p ++ q))
    (every_collect (less t.exponents) (p ++ q) (every-++ (λ j c. less t.exponents j) p q a b)))
    ∙ select-++ (λ k c. is_nonzero c) (t ∷ []) (collect (p ++ q))

-- also if it stands in the second list
sum_comm : (p q : Terms) → sum_terms p q ≡ sum_terms q p
sum_comm p q = canonical_same (p ++ q) (q ++ p)
    (λ k. coefficient-++ k p q ∙ +ℤ_comm (coefficient_at p k) (coefficient_at q k) ∙ sym (coefficient-++ k q p))

pub second_term : (t : Term ℤ) (p q : Terms) → Above t.exponents p → Above t.exponents q
    → sum_terms p (t ∷ q) ≡ unless_zero t ++ sum_terms p q
second_term t p q a b = sum_comm p (t ∷ q) ∙ first_term t q p b a ∙ ap (λ l. unless_zero t ++ l) (sum_comm q p)

-- two of one monomial are added
pub joint_terms : (k : List ℕ) (c d : ℤ) (p q : Terms) → Above k p → Above k q
    → sum_terms (term c k ∷ p) (term d k ∷ q) ≡ unless_zero (term (c +ℤ d) k) ++ sum_terms p q
joint_terms k c d p q a b =
    canonical_same (term c k ∷ (p ++ (term d k ∷ q))) (term (c +ℤ d) k ∷ (p ++ q)) same_coefficients
    ∙ first_term (term (c +ℤ d) k) p q a b
  where
    same_coefficients : (j : List ℕ)
        → coefficient_at (term c k ∷ (p ++ (term d k ∷ q))) j ≡ coefficient_at (term (c +ℤ d) k ∷ (p ++ q)) j
    same_coefficients j =
        coefficient_cons j (term c k) (p ++ (term d k ∷ q))
        ∙ ap (λ z. share j (term c k) +ℤ z) (coefficient-++ j p (term d k ∷ q)
        ∙ ap (λ z. coefficient_at p j +ℤ z) (coefficient_cons j (term d k) q))
        ∙ ring 4 ℤR (λ x u y v. x ⊞ (u ⊞ (y ⊞ v))) (λ x u y v. (x ⊞ y) ⊞ (u ⊞ v)) refl
        (share j (term c k)) (coefficient_at p j) (share j (term d k)) (coefficient_at q j)
        ∙ ap (λ z. z +ℤ (coefficient_at p j +ℤ coefficient_at q j)) (sym (at_additive j k c d))
        ∙ ap (λ z. share j (term (c +ℤ d) k) +ℤ z) (sym (coefficient-++ j p q))
        ∙ sym (coefficient_cons j (term (c +ℤ d) k) (p ++ q))
