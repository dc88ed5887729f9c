-- Laws for loops over terms: one more term of a factor, a monomial looked for, a coefficient added to at its place.
use Rattle.std.specs.Prelude.{◌≡◌, refl, Bool, true, false, not, List, [], ◌∷◌, ◌++◌, ℕ, zero, suc, ◌<◌, T, ℤ, ◌+ℤ◌, ◌*ℤ◌, length, get_or}
use Rattle.std.proofs.Common.{sym, ◌∙◌, ap, subst, append-nil, append_assoc, arith, T_not}
use Rattle.std.proofs.Math.Dec.{not_T}
use Rattle.std.proofs.Math.IntN.{+ℤ_assoc}
use Rattle.algebra.specs.LexicographicLaws.{same_refl, same_ok}
use Rattle.algebra.specs.RingLaws.{+-lcomm}
use Rattle.algebra.specs.IntegerRing.{ℤR}
use Rattle.polynomial.specs.Polynomial.{Term, add_exponents, times, product}
use Rattle.calculus.specs.Monomial.{same}
use Rattle.calculus.specs.Terms.{Terms, term, every, select}
use Rattle.calculus_laws.specs.TestLaws.{and_left, and_right, both}
use Rattle.calculus_laws.specs.TermsLaws.{every_head, every_tail, every_nil, every_cons, every-++}
use Rattle.calculus_laws.specs.CanonicalLaws.{at_monomial, at_additive, coefficient_at, coefficient_cons, share}
use Rattle.calculus.specs.Terms.{absent, distinct}

-- ---- the products so far
-- one more term of the second factor
pub times_snoc : (t : Term ℤ) (q : Terms) (s : Term ℤ) → times ℤR t (q ++ (s ∷ []))
    ≡ times ℤR t q ++ (term (t.coefficient *ℤ s.coefficient) (add_exponents t.exponents s.exponents) ∷ [])
unfolding times
times_snoc t [] s = refl
times_snoc t (u ∷ q) s =
    ap (λ l. term (t.coefficient *ℤ u.coefficient) (add_exponents t.exponents u.exponents) ∷ l)
    (times_snoc t q s)

-- one more term of the first factor
pub product_snoc : (p q : Terms) (t : Term ℤ) → product ℤR (p ++ (t ∷ [])) q ≡ product ℤR p q ++ times ℤR t q
unfolding product
product_snoc [] q t = append-nil (times ℤR t q)
product_snoc (s ∷ p) q t = ap (λ l. times ℤR s q ++ l) (product_snoc p q t)
    ∙ sym (append_assoc (times ℤR s q) (product ℤR p q) (times ℤR t q))

-- ---- what is selected so far
pub select-++ : (f : List ℕ → ℤ → Bool) (p q : Terms) → select f (p ++ q) ≡ select f p ++ select f q
unfolding select
select-++ f [] q = refl
select-++ f (t ∷ p) q = go (f t.exponents t.coefficient) (select-++ f p q)
  where
    go : (b : Bool) → select f (p ++ q) ≡ select f p ++ select f q
        → elim b as (λ b. Terms) [ true ↦ t ∷ select f (p ++ q) | false ↦ select f (p ++ q) ]
        ≡ elim b as (λ b. Terms) [ true ↦ t ∷ select f p | false ↦ select f p ] ++ select f q
    go true h = ap (λ l. t ∷ l) h
    go false h = h

-- ---- a monomial looked for and not found
pub absent_snoc : (k : List ℕ) (p : Terms) (t : Term ℤ) → T (absent k p) → T (not (same k t.exponents))
    → T (absent k (p ++ (t ∷ [])))
unfolding absent
absent_snoc k p t h n = every-++ other p (t ∷ []) h (every_cons other t [] n (every_nil other))
  where
    other : List ℕ → ℤ → Bool
    other j c = not (same k j)

-- a new monomial at the end
pub distinct_snoc : (p : Terms) (t : Term ℤ) → T (distinct p) → T (absent t.exponents p)
    → T (distinct (p ++ (t ∷ [])))
unfolding distinct
distinct_snoc [] t h a = both (absent t.exponents []) _ a h
distinct_snoc (s ∷ p) t h a = both (absent s.exponents (p ++ (t ∷ []))) _
    (absent_snoc s.exponents p t (and_left (absent s.exponents p) _ h) (turned (head a)))
    (distinct_snoc p t (and_right (absent s.exponents p) _ h) (tail a))
  where
    other : List ℕ → ℤ → Bool
    other j c = not (same t.exponents j)

    head : T (absent t.exponents (s ∷ p)) → T (not (same t.exponents s.exponents))
    head a = unfold absent in every_head other s p a

    tail : T (absent t.exponents (s ∷ p)) → T (absent t.exponents p)
    tail a = unfold absent in every_tail other s p a

    turned : T (not (same t.exponents s.exponents)) → T (not (same s.exponents t.exponents))
    turned n = not_T (same s.exponents t.exponents) (λ e. T_not (same t.exponents s.exponents) n
        (subst (λ k. T (same t.exponents k)) (sym (same_ok s.exponents t.exponents e))
        (same_refl t.exponents)))

-- ---- c added to the coefficient at place i
unfoldable pub add_at : ℕ → ℤ → Terms → Terms
add_at i c [] = []
add_at zero c (t ∷ p) = term (c +ℤ t.coefficient) t.exponents ∷ p
add_at (suc i) c (t ∷ p) = t ∷ add_at i c p

absent_add_at : (k : List ℕ) (i : ℕ) (c : ℤ) (p : Terms) → T (absent k p) → T (absent k (add_at i c p))
unfolding absent add_at every
absent_add_at k i c [] h = h
absent_add_at k zero c (t ∷ p) h = h
absent_add_at k (suc i) c (t ∷ p) h = both (not (same k t.exponents)) _ (and_left (not (same k t.exponents)) _ h)
    (absent_add_at k i c p (and_right (not (same k t.exponents)) _ h))

pub distinct_add_at : (i : ℕ) (c : ℤ) (p : Terms) → T (distinct p) → T (distinct (add_at i c p))
unfolding distinct add_at
distinct_add_at i c [] h = h
distinct_add_at zero c (t ∷ p) h = h
distinct_add_at (suc i) c (t ∷ p) h = both (absent t.exponents (add_at i c p)) _
    (absent_add_at t.exponents i c p (and_left (absent t.exponents p) _ h))
    (distinct_add_at i c p (and_right (absent t.exponents p) _ h))

-- as far as the coefficients go, it is one more term
pub coefficient_add_at : (i : ℕ) (c : ℤ) (p : Terms) (d : Term ℤ) → i < length p → (k : List ℕ)
    → coefficient_at (add_at i c p) k ≡ at_monomial k (get_or p i d).exponents c +ℤ coefficient_at p k
unfolding add_at
coefficient_add_at i c [] d h k = absurd (omega arith)
coefficient_add_at zero c (t ∷ p) d h k = coefficient_cons k _ p
    ∙ ap (λ z. z +ℤ coefficient_at p k) (at_additive k t.exponents c t.coefficient)
    ∙ +ℤ_assoc (at_monomial k t.exponents c) (share k t) (coefficient_at p k)
    ∙ ap (λ z. at_monomial k t.exponents c +ℤ z) (sym (coefficient_cons k t p))
coefficient_add_at (suc i) c (t ∷ p) d h k = coefficient_cons k t (add_at i c p)
    ∙ ap (λ z. share k t +ℤ z) (coefficient_add_at i c p d (omega arith) k)
    ∙ +-lcomm ℤR (share k t) (at_monomial k (get_or p i d).exponents c) (coefficient_at p k)
    ∙ ap (λ z. at_monomial k (get_or p i d).exponents c +ℤ z) (sym (coefficient_cons k t p))
