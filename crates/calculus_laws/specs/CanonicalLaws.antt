-- The canonical form: a strictly rising list of nonzero terms is determined by its coefficient at each monomial,
-- collecting gives that list, and sums over terms do not depend on the order in which they stand.
use Rattle.std.specs.Prelude.{◌≡◌, Bool, ℕ, ℤ, ◌+ℤ◌}
use Rattle.std.proofs.Math.Path.{refl, sym, ap, subst}
use Rattle.std.proofs.Common.{◌∙◌, ap₂}
use Rattle.std.proofs.Math.Bool.{true, false, not}
use mathlib.Core.List.{List, [], ◌∷◌, ◌++◌}
use Rattle.std.proofs.Math.Dec.{T, T_not, not_T}
use Rattle.std.proofs.Math.IntN.{pos, +ℤ_idl, +ℤ_idr, +ℤ_comm}
use Rattle.algebra.specs.LexicographicLaws.{same_ok, same_refl, less_irrefl, less_trans, less_total}
use Rattle.algebra.specs.RingLaws.{+-cancel}
use Rattle.algebra.specs.IntegerRing.{ℤR}
use Rattle.polynomial.specs.Polynomial.{Term}
use Rattle.calculus.specs.Monomial.{same, less}
use Rattle.calculus.specs.Terms.{Terms, term, select, sum_over, map_coefficients, rising_from, rising}
use Rattle.calculus.specs.Terms.{absent, distinct}
use Rattle.calculus.specs.Terms.{is_nonzero, nonzero, drop_zeros, insert, collect}
use Rattle.calculus_laws.specs.TestLaws.{and_left, and_right, both}
use Rattle.calculus_laws.specs.TermsLaws.{by_select, by_insert, every_head, every_tail, every_nil, every_cons}
use Rattle.calculus_laws.specs.TermsLaws.{every_select, every_collect, rising_head, rising_rest, rising_any}
use Rattle.calculus_laws.specs.TermsLaws.{rising_select, rising_collect, nonzero_drop_zeros}
use Rattle.calculus_laws.specs.SumLaws.{sum_if_so, ℤ_addition, if_ℤ, Addition, plus_swap, if_so, if_so_nothing}
use Rattle.calculus_laws.specs.SumLaws.{sum, at_term, sum_nil, sum_cons, sum-++, sum_drop_zeros, sum_collect}
use Rattle.calculus_laws.specs.SumLaws.{sum_select, sum_cong}

-- ---- the coefficient at a monomial
-- what c at the monomial j is at k
abbrev pub at_monomial : List ℕ → List ℕ → ℤ → ℤ
at_monomial k j c = if_ℤ (same k j) c

-- the sum of all coefficients at k
unfoldable pub coefficient_at : Terms → List ℕ → ℤ
coefficient_at p k = sum_over ◌+ℤ◌ (pos 0) (at_monomial k) p

-- the same coefficient at every monomial
abbrev pub SameCoefficients : Terms → Terms → Type 0
SameCoefficients p q = (k : List ℕ) → coefficient_at p k ≡ coefficient_at q k

module _ (k : List ℕ) where
  -- the share of a term
  abbrev pub share : Term ℤ → ℤ
  share t = at_monomial k t.exponents t.coefficient

  pub at_additive : (j : List ℕ) (c d : ℤ) → at_monomial k j (c +ℤ d) ≡ at_monomial k j c +ℤ at_monomial k j d
  unfolding if_so
  at_additive j c d = go (same k j)
    where
      go : (b : Bool) → if_ℤ b (c +ℤ d) ≡ if_ℤ b c +ℤ if_ℤ b d
      go true = refl
      go false = refl

  at_zero : (j : List ℕ) → at_monomial k j (pos 0) ≡ pos 0
  at_zero j = if_so_nothing ℤ_addition (same k j)

  pub coefficient_nil : coefficient_at [] k ≡ pos 0
  unfolding coefficient_at
  coefficient_nil = sum_nil ℤ_addition (at_monomial k)

  pub coefficient_cons : (t : Term ℤ) (p : Terms) → coefficient_at (t ∷ p) k ≡ share t +ℤ coefficient_at p k
  unfolding coefficient_at
  coefficient_cons t p = sum_cons ℤ_addition (at_monomial k) t p

  pub coefficient-++ : (p q : Terms) → coefficient_at (p ++ q) k ≡ coefficient_at p k +ℤ coefficient_at q k
  unfolding coefficient_at
  coefficient-++ p q = sum-++ ℤ_addition (at_monomial k) p q

  -- collecting keeps each coefficient
  pub coefficient_collect : (p : Terms) → coefficient_at (collect p) k ≡ coefficient_at p k
  unfolding coefficient_at
  coefficient_collect p = sum_collect ℤ_addition (at_monomial k) at_additive p

  -- and so does dropping zeros
  pub coefficient_drop_zeros : (p : Terms) → coefficient_at (drop_zeros p) k ≡ coefficient_at p k
  unfolding coefficient_at
  coefficient_drop_zeros p = sum_drop_zeros ℤ_addition (at_monomial k) at_zero p

  pub share_here : (t : Term ℤ) → T (same k t.exponents) → share t ≡ t.coefficient
  unfolding if_so
  share_here t = go (same k t.exponents)
    where
      go : (b : Bool) → T b → if_ℤ b t.coefficient ≡ t.coefficient
      go true h = refl
      go false h = absurd h

  pub share_elsewhere : (t : Term ℤ) → T (not (same k t.exponents)) → share t ≡ pos 0
  unfolding if_so
  share_elsewhere t = go (same k t.exponents)
    where
      go : (b : Bool) → T (not b) → if_ℤ b t.coefficient ≡ pos 0
      go true h = absurd h
      go false h = refl

-- ---- monomials that do not stand, and that stand once
pub absent_zero : (k : List ℕ) (p : Terms) → T (absent k p) → coefficient_at p k ≡ pos 0
unfolding absent
absent_zero k [] h = coefficient_nil k
absent_zero k (t ∷ p) h = coefficient_cons k t p
    ∙ ap₂ ◌+ℤ◌ (share_elsewhere k t (every_head (λ j c. not (same k j)) t p h))
    (absent_zero k p (every_tail (λ j c. not (same k j)) t p h))

-- what is not above j does not stand above j
rising_absent : (j k : List ℕ) (p : Terms) → T (rising_from j p) → T (not (less j k)) → T (absent k p)
unfolding absent
rising_absent j k [] h n = every_nil (λ j c. not (same k j))
rising_absent j k (t ∷ p) h n = every_cons (λ j c. not (same k j)) t p
    (not_T (same k t.exponents) (λ s. T_not (less j k) n (rw (same_ok k t.exponents s) (rising_head j t p h))))
    (rising_absent t.exponents k p (rising_rest j t p h)
    (not_T (less t.exponents k) (λ g. T_not (less j k) n (less_trans j t.exponents k (rising_head j t p h) g))))

not_above : (k : List ℕ) → T (not (less k k))
not_above k = not_T (less k k) (less_irrefl k)

pub rising_distinct : (p : Terms) → T (rising p) → T (distinct p)
unfolding rising distinct
rising_distinct [] h = tt
rising_distinct (t ∷ p) h = both (absent t.exponents p) _
    (rising_absent t.exponents t.exponents p h (not_above t.exponents))
    (rising_distinct p (rising_any t.exponents p h))

-- ---- the coefficients of what is selected or mapped
pub absent_select : (f : List ℕ → ℤ → Bool) (k : List ℕ) (p : Terms) → T (absent k p) → T (absent k (select f p))
unfolding absent
absent_select f k p h = every_select (λ j c. not (same k j)) f p h

pub distinct_select : (f : List ℕ → ℤ → Bool) (p : Terms) → T (distinct p) → T (distinct (select f p))
unfolding distinct
distinct_select f [] h = unfold select in tt
distinct_select f (t ∷ p) h = go (distinct_select f p (and_right (absent t.exponents p) _ h))
  where
    go : T (distinct (select f p)) → T (distinct (select f (t ∷ p)))
    go ih = by_select (λ q. T (distinct q)) f t p
        (λ y. both (absent t.exponents (select f p)) _
        (absent_select f t.exponents p (and_left (absent t.exponents p) _ h)) ih)
        (λ n. ih)

-- selected by a test of monomials: the coefficient, where the monomial passes
pub coefficient_select : (f : List ℕ → Bool) (p : Terms) (k : List ℕ)
    → coefficient_at (select (λ j c. f j) p) k ≡ if_ℤ (f k) (coefficient_at p k)
unfolding coefficient_at
coefficient_select f p k = sum_select ℤ_addition (at_monomial k) (λ j c. f j) p
    ∙ sum_cong ℤ_addition _ _ (λ j c. here j c (same k j) (same_ok k j)) p
    ∙ sum_if_so ℤ_addition (at_monomial k) (f k) p
  where
    here : (j : List ℕ) (c : ℤ) (b : Bool) → (T b → k ≡ j)
        → if_ℤ (f j) (if_ℤ b c) ≡ if_ℤ (f k) (if_ℤ b c)
    here j c true e = ap (λ i. if_ℤ (f i) (if_ℤ true c)) (sym (e tt))
    here j c false e = unfold if_so in (if_so_nothing ℤ_addition (f j) ∙ sym (if_so_nothing ℤ_addition (f k)))

-- each coefficient put through u, where each monomial stands once
pub coefficient_map : (u : ℤ → ℤ) → u (pos 0) ≡ pos 0 → (p : Terms) → T (distinct p) → (k : List ℕ)
    → coefficient_at (map_coefficients u p) k ≡ u (coefficient_at p k)
unfolding map_coefficients distinct
coefficient_map u z [] d k = coefficient_nil k ∙ sym (ap u (coefficient_nil k) ∙ z)
coefficient_map u z (t ∷ p) d k = coefficient_cons k _ _
    ∙ ap (λ x. at_monomial k t.exponents (u t.coefficient) +ℤ x)
    (coefficient_map u z p (and_right (absent t.exponents p) _ d) k)
    ∙ go (same k t.exponents) (λ s. absent_zero k p (subst (λ j. T (absent j p)) (sym (same_ok k t.exponents s))
    (and_left (absent t.exponents p) _ d)))
    ∙ ap u (sym (coefficient_cons k t p))
  where
    c : ℤ
    c = t.coefficient

    go : (b : Bool) → (T b → coefficient_at p k ≡ pos 0)
        → if_ℤ b (u c) +ℤ u (coefficient_at p k) ≡ u (if_ℤ b c +ℤ coefficient_at p k)
    go true a = unfold if_so in
        (ap (λ x. u c +ℤ x) (ap u (a tt) ∙ z) ∙ +ℤ_idr (u c) ∙ ap u (sym (ap (λ x. c +ℤ x) (a tt) ∙ +ℤ_idr c)))
    go false a = unfold if_so in (+ℤ_idl (u (coefficient_at p k)) ∙ ap u (sym (+ℤ_idl (coefficient_at p k))))

-- ---- uniqueness
module _ (t : Term ℤ) (p : Terms) (h : T (rising_from t.exponents p)) where
  coefficient_head : coefficient_at (t ∷ p) t.exponents ≡ t.coefficient
  coefficient_head = coefficient_cons t.exponents t p
      ∙ ap₂ ◌+ℤ◌ (share_here t.exponents t (same_refl t.exponents))
      (absent_zero t.exponents p (rising_absent t.exponents t.exponents p h (not_above t.exponents)))
      ∙ +ℤ_idr t.coefficient

  -- below the first monomial there is nothing
  coefficient_below : (k : List ℕ) → T (less k t.exponents) → coefficient_at (t ∷ p) k ≡ pos 0
  coefficient_below k l = coefficient_cons k t p
      ∙ ap₂ ◌+ℤ◌ (share_elsewhere k t (not_T (same k t.exponents)
      (λ s. less_irrefl k (subst (λ j. T (less k j)) (sym (same_ok k t.exponents s)) l))))
      (absent_zero k p (rising_absent t.exponents k p h (not_T (less t.exponents k)
      (λ m. less_irrefl k (less_trans k t.exponents k l m)))))

nonzero_head : (t : Term ℤ) (p : Terms) → T (nonzero (t ∷ p)) → t.coefficient ≡ pos 0 → ⊥
unfolding nonzero
nonzero_head t p h e = unfold is_nonzero in subst (λ z. T (is_nonzero z)) e (every_head (λ k c. is_nonzero c) t p h)

nonzero_tail : (t : Term ℤ) (p : Terms) → T (nonzero (t ∷ p)) → T (nonzero p)
unfolding nonzero
nonzero_tail t p h = every_tail (λ k c. is_nonzero c) t p h

-- two strictly rising lists of nonzero terms with the same coefficients are one list
pub canonical_unique : (p q : Terms) → T (rising p) → T (rising q) → T (nonzero p) → T (nonzero q)
    → SameCoefficients p q → p ≡ q
unfolding rising
canonical_unique [] [] rp rq np nq h = refl
canonical_unique [] (s ∷ q) rp rq np nq h =
    absurd (nonzero_head s q nq
    (sym (coefficient_head s q rq) ∙ sym (h s.exponents) ∙ coefficient_nil s.exponents))
canonical_unique (t ∷ p) [] rp rq np nq h =
    absurd (nonzero_head t p np (sym (coefficient_head t p rp) ∙ h t.exponents ∙ coefficient_nil t.exponents))
canonical_unique (t ∷ p) (s ∷ q) rp rq np nq h = go (same t.exponents s.exponents)
    (less t.exponents s.exponents)
    (same_ok t.exponents s.exponents) (λ l. l) (less_total t.exponents s.exponents)
    (canonical_unique p q (rising_any t.exponents p rp) (rising_any s.exponents q rq)
    (nonzero_tail t p np) (nonzero_tail s q nq))
  where
    go : (b c : Bool) → (T b → t.exponents ≡ s.exponents) → (T c → T (less t.exponents s.exponents))
        → (T (not b) → T (not c) → T (less s.exponents t.exponents)) → (SameCoefficients p q → p ≡ q)
        → t ∷ p ≡ s ∷ q
    go true c e f g ih = ap₂ ◌∷◌ heads (ih tails)
      where
        coefficients : t.coefficient ≡ s.coefficient
        coefficients = sym (coefficient_head t p rp) ∙ h t.exponents ∙ ap (coefficient_at (s ∷ q)) (e tt)
            ∙ coefficient_head s q rq

        heads : t ≡ s
        heads = λ i. term (coefficients i) (e tt i)

        tails : SameCoefficients p q
        tails k = +-cancel ℤR (coefficient_at p k) (coefficient_at q k) (share k t)
            (+ℤ_comm (coefficient_at p k) (share k t) ∙ sym (coefficient_cons k t p) ∙ h k ∙ coefficient_cons k s q
            ∙ ap (λ u. share k u +ℤ coefficient_at q k) (sym heads) ∙ +ℤ_comm (share k t) (coefficient_at q k))
    go false true e f g ih = absurd (nonzero_head t p np
        (sym (coefficient_head t p rp) ∙ h t.exponents ∙ coefficient_below s q rq t.exponents (f tt)))
    go false false e f g ih = absurd (nonzero_head s q nq
        (sym (coefficient_head s q rq) ∙ sym (h s.exponents) ∙ coefficient_below t p rp s.exponents (g tt tt)))

-- what is collected and freed from zeros is canonical
pub canonical_rising : (p : Terms) → T (rising (drop_zeros (collect p)))
unfolding drop_zeros
canonical_rising p = rising_select (λ k c. is_nonzero c) (collect p) (rising_collect p)

pub canonical_coefficients : (p : Terms) → SameCoefficients (drop_zeros (collect p)) p
canonical_coefficients p k = coefficient_drop_zeros k (collect p) ∙ coefficient_collect k p

-- so it depends on the coefficients alone
pub canonical_same : (p q : Terms) → SameCoefficients p q → drop_zeros (collect p) ≡ drop_zeros (collect q)
canonical_same p q h = canonical_unique _ _ (canonical_rising p) (canonical_rising q)
    (nonzero_drop_zeros (collect p)) (nonzero_drop_zeros (collect q))
    (λ k. canonical_coefficients p k ∙ h k ∙ sym (canonical_coefficients q k))

-- ---- sums over terms whose monomials stand once, of a g that is nothing at coefficient 0
module _ {A : Type 0} (N : Addition A) (g : List ℕ → ℤ → A) where
  open N use {plus, nothing}

  sum_insert_new : (t : Term ℤ) (p : Terms) → T (absent t.exponents p)
      → sum N g (insert t p) ≡ plus (at_term N g t) (sum N g p)
  unfolding absent
  sum_insert_new t [] h = unfold insert in sum_cons N g t []
  sum_insert_new t (s ∷ p) h = go (sum_insert_new t p (every_tail (λ j c. not (same t.exponents j)) s p h))
    where
      other : t.exponents ≡ s.exponents → ⊥
      other e = T_not (same t.exponents s.exponents) (every_head (λ j c. not (same t.exponents j)) s p h)
          (subst (λ k. T (same t.exponents k)) e (same_refl t.exponents))

      go : sum N g (insert t p) ≡ plus (at_term N g t) (sum N g p)
          → sum N g (insert t (s ∷ p)) ≡ plus (at_term N g t) (sum N g (s ∷ p))
      go ih = by_insert (λ q. sum N g q ≡ plus (at_term N g t) (sum N g (s ∷ p))) t s p (λ e. absurd (other e))
          (λ l. sum_cons N g t (s ∷ p))
          (λ l. sum_cons N g s _ ∙ ap (plus (at_term N g s)) ih ∙ plus_swap N _ _ _
          ∙ ap (plus (at_term N g t)) (sym (sum_cons N g s p)))

  pub sum_collect_distinct : (p : Terms) → T (distinct p) → sum N g (collect p) ≡ sum N g p
  unfolding collect distinct
  sum_collect_distinct [] h = refl
  sum_collect_distinct (t ∷ p) h = sum_insert_new t (collect p) (collected (and_left (absent t.exponents p) _ h))
      ∙ ap (plus (at_term N g t)) (sum_collect_distinct p (and_right (absent t.exponents p) _ h))
      ∙ sym (sum_cons N g t p)
    where
      collected : T (absent t.exponents p) → T (absent t.exponents (collect p))
      collected h = unfold absent in every_collect (λ j. not (same t.exponents j)) p h

  -- the sum depends on the coefficients alone, in whatever order the monomials stand
  pub sum_same : ((k : List ℕ) → g k (pos 0) ≡ nothing) → (p q : Terms) → T (distinct p) → T (distinct q)
      → SameCoefficients p q → sum_over plus nothing g p ≡ sum_over plus nothing g q
  sum_same z p q dp dq h = sym (canonical p dp) ∙ ap (sum N g) (canonical_same p q h) ∙ canonical q dq
    where
      canonical : (p : Terms) → T (distinct p) → sum N g (drop_zeros (collect p)) ≡ sum N g p
      canonical p d = sum_drop_zeros N g z (collect p) ∙ sum_collect_distinct p d
