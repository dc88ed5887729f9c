-- One more term among others: where its monomial stands, the coefficient at each monomial, the size.
use Rattle.std.specs.Prelude.{◌≡◌, Bool, true, false, not, ℤ, ◌+ℤ◌, length, get_or}
use Rattle.std.proofs.Math.Path.{refl, ap}
use Rattle.std.proofs.Common.{sym, ◌∙◌, subst}
use mathlib.Core.List.{List, [], ◌∷◌, ◌++◌}
use Prim.Native.Nat.{ℕ, zero, suc, ◌+◌, ◌<◌, ◌≤◌}
use native.Mathlib.Omega.{arith}
use Rattle.std.proofs.Math.Dec.{T, T_not, not_T}
use Rattle.std.proofs.Math.IntN.{nat_abs, +ℤ_comm}
use Rattle.algebra.specs.Lexicographic.{same}
use Rattle.algebra.specs.LexicographicLaws.{same_ok, same_refl}
use Rattle.algebra.specs.Integer.{natAbs_add}
use Rattle.polynomial.specs.Polynomial.{Term}
use Rattle.calculus.specs.Terms.{Terms, term, every, sum_over, size}
use Rattle.calculus_laws.specs.TestLaws.{and_left, and_right}
use Rattle.calculus_laws.specs.TermsLaws.{on_monomials, every_head, every_tail, every_nil, every_cons}
use Rattle.calculus.specs.Terms.{absent}
use Rattle.calculus_laws.specs.CanonicalLaws.{coefficient_at, SameCoefficients, coefficient_cons, coefficient-++}
use Rattle.calculus.specs.Terms.{distinct}
use Rattle.calculus_laws.specs.LoopLaws.{add_at, distinct_add_at, coefficient_add_at, distinct_snoc}
use Rattle.product_sums.specs.TermArrays.{none, accumulated}

-- ---- by cases: the monomial is the first term's, or is looked for after it
by_accumulated : (P : Terms → Type 0) (t s : Term ℤ) (p : Terms)
    → (t.exponents ≡ s.exponents → P (term (t.coefficient +ℤ s.coefficient) s.exponents ∷ p))
    → (T (not (same t.exponents s.exponents)) → P (s ∷ accumulated t p)) → P (accumulated t (s ∷ p))
unfolding accumulated
by_accumulated P t s p = go (same t.exponents s.exponents) (same_ok t.exponents s.exponents)
  where
    joined : Term ℤ
    joined = term (t.coefficient +ℤ s.coefficient) s.exponents

    go : (b : Bool) → (T b → t.exponents ≡ s.exponents) → (t.exponents ≡ s.exponents → P (joined ∷ p))
        → (T (not b) → P (s ∷ accumulated t p))
        → P (elim b as (λ b. Terms) [ true ↦ joined ∷ p | false ↦ s ∷ accumulated t p ])
    go true e here after = here (e tt)
    go false e here after = after tt

-- ---- where a monomial stands
module _ (k : List ℕ) where
  other : List ℕ → ℤ → Bool
  other j c = not (same k j)

  -- nowhere, if at no place
  pub absent_by : (p : Terms) → ((i : ℕ) → i < length p → k ≡ (get_or p i none).exponents → ⊥) → T (absent k p)
  unfolding absent other
  absent_by [] f = every_nil other
  absent_by (s ∷ p) f =
      every_cons other s p (not_T (same k s.exponents) (λ h. f 0 (omega arith) (same_ok k s.exponents h)))
      (absent_by p (λ i l. f (suc i) (omega arith)))

  absent_at : (p : Terms) (i : ℕ) → T (absent k p) → i < length p → k ≡ (get_or p i none).exponents → ⊥
  unfolding absent other
  absent_at [] i h l e = omega arith
  absent_at (s ∷ p) zero h l e =
      T_not (same k s.exponents) (every_head other s p h) (subst (λ (j : List ℕ). T (same k j)) e (same_refl k))
  absent_at (s ∷ p) (suc i) h l e = absent_at p i (every_tail other s p h) (omega arith) e

-- at a place, or nowhere
data Standing (k : List ℕ) (p : Terms) : Type 0 where
  at : (i : ℕ) → i < length p → k ≡ (get_or p i none).exponents → Standing k p
  nowhere : T (absent k p) → Standing k p

standing : (k : List ℕ) (p : Terms) → Standing k p
standing k [] = nowhere (absent_by k [] (λ i l e. omega arith))
standing k (s ∷ p) = go (same k s.exponents) (same_ok k s.exponents) (λ n. n) (standing k p)
  where
    go : (b : Bool) → (T b → k ≡ s.exponents) → (T (not b) → T (not (same k s.exponents)))
        → Standing k p → Standing k (s ∷ p)
    go true f g r = at 0 (omega arith) (f tt)
    go false f g (at i l e) = at (suc i) (omega arith) e
    go false f g (nowhere h) = nowhere (unfold absent in every_cons _ s p (g tt) h)

-- ---- a term is added at its place, or put after the others
module _ (t : Term ℤ) where
  pub accumulated_at : (p : Terms) (i : ℕ) → T (distinct p) → i < length p → t.exponents ≡ (get_or p i none).exponents
      → accumulated t p ≡ add_at i t.coefficient p
  unfolding distinct add_at
  accumulated_at [] i h l e = absurd (omega arith)
  accumulated_at (s ∷ p) zero h l e =
      by_accumulated (λ q. q ≡ add_at 0 t.coefficient (s ∷ p)) t s p (λ f. refl)
      (λ n. absurd (T_not (same t.exponents s.exponents) n (rw (← e) (same_refl t.exponents))))
  accumulated_at (s ∷ p) (suc i) h l e =
      by_accumulated (λ q. q ≡ s ∷ add_at i t.coefficient p) t s p
      (λ f. absurd (absent_at s.exponents p i (and_left (absent s.exponents p) _ h) (omega arith) (sym f ∙ e)))
      (λ n. ap (λ (q : Terms). s ∷ q) (accumulated_at p i (and_right (absent s.exponents p) _ h) (omega arith) e))

  pub accumulated_new : (p : Terms) → T (absent t.exponents p) → accumulated t p ≡ p ++ (t ∷ [])
  accumulated_new [] h = unfold accumulated in refl
  accumulated_new (s ∷ p) h =
      by_accumulated (λ q. q ≡ s ∷ (p ++ (t ∷ []))) t s p
      (λ e. absurd (absent_at t.exponents (s ∷ p) 0 h (omega arith) e))
      (λ n. ap (λ (q : Terms). s ∷ q) (accumulated_new p (unfold absent in every_tail _ s p h)))

  pub distinct_accumulated : (p : Terms) → T (distinct p) → T (distinct (accumulated t p))
  distinct_accumulated p h = go (standing t.exponents p)
    where
      go : Standing t.exponents p → T (distinct (accumulated t p))
      go (at i l e) = rw (accumulated_at p i h l e) (distinct_add_at i t.coefficient p h)
      go (nowhere a) = rw (accumulated_new p a) (distinct_snoc p t h a)

  pub coefficient_accumulated : (p : Terms) → T (distinct p) → SameCoefficients (accumulated t p) (t ∷ p)
  coefficient_accumulated p h k = go (standing t.exponents p)
    where
      go : Standing t.exponents p → coefficient_at (accumulated t p) k ≡ coefficient_at (t ∷ p) k
      go (at i l e) =
          rw (accumulated_at p i h l e, coefficient_add_at i t.coefficient p none l k, ← e)
          (sym (coefficient_cons k t p))
      go (nowhere a) =
          rw (accumulated_new p a)
          (coefficient-++ k p (t ∷ [])
          ∙ +ℤ_comm (coefficient_at p k) (coefficient_at (t ∷ []) k)
          ∙ sym (coefficient-++ k (t ∷ []) p))

  -- ---- what every monomial passes, and the size
  pub every_accumulated : (f : List ℕ → Bool) (p : Terms) → T (f t.exponents) → T (every (on_monomials f) p)
      → T (every (on_monomials f) (accumulated t p))
  every_accumulated f [] h g = unfold accumulated in every_cons (on_monomials f) t [] h g
  every_accumulated f (s ∷ p) h g =
      let first = every_head (on_monomials f) s p g in
      let others = every_tail (on_monomials f) s p g in
      by_accumulated (λ q. T (every (on_monomials f) q)) t s p
      (λ e. every_cons (on_monomials f) _ p first others)
      (λ n. every_cons (on_monomials f) s _ first (every_accumulated f p h others))

  pub size_accumulated : (p : Terms) → size (accumulated t p) ≤ nat_abs t.coefficient + size p
  unfolding size sum_over
  size_accumulated [] = unfold accumulated in omega arith
  size_accumulated (s ∷ p) =
      by_accumulated (λ q. size q ≤ nat_abs t.coefficient + (nat_abs s.coefficient + size p)) t s p
      (λ e. omega (arith, natAbs_add t.coefficient s.coefficient))
      (λ n. omega (arith, size_accumulated p))
