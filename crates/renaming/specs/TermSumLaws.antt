-- Tests, lengths and largest exponents of terms as sums; sums of functions that agree on the terms there are.
use Rattle.std.specs.Prelude.{◌≡◌, refl, Bool, true, ◌&&◌, ℕ, max, T, ℤ, ◌*ℤ◌, length}
use Rattle.std.proofs.Math.Path.{sym, ap, ap₂}
use Rattle.std.proofs.Common.{◌∙◌, arith}
use mathlib.Core.List.{List, [], ◌∷◌}
use Rattle.algebra.specs.IntegerRing.{ℤR}
use Rattle.polynomial.specs.Polynomial.{Term, add_exponents, exponent, times, product}
use Rattle.calculus.specs.Monomial.{index_of}
use Rattle.calculus.specs.Terms.{Terms, every, sum_over, sum_ℕ}
use Rattle.calculus.specs.Operations.{largest_exponent}
use Rattle.calculus_laws.specs.TermsLaws.{every_head, every_tail}
use Rattle.calculus_laws.specs.SumLaws.{Addition, sum, sum_nil, sum_cons, sum-++}

-- ---- as sums
pub every_sum : (f : List ℕ → ℤ → Bool) (p : Terms) → every f p ≡ sum_over ◌&&◌ true f p
unfolding every sum_over
every_sum f [] = refl
every_sum f (t ∷ p) = ap (f t.exponents t.coefficient &&◌) (every_sum f p)

pub length_sum : (p : Terms) → length p ≡ sum_ℕ (λ k c. 1) p
unfolding sum_over
length_sum [] = refl
length_sum (t ∷ p) = let e = length_sum p in omega arith

pub largest_exponent_sum : (i : ℕ) (p : Terms)
    → largest_exponent i p ≡ sum_over max 0 (λ k c. exponent (index_of i) k) p
unfolding largest_exponent sum_over
largest_exponent_sum i [] = refl
largest_exponent_sum i (t ∷ p) = ap (max (exponent (index_of i) t.exponents)) (largest_exponent_sum i p)

module _ {A : Type 0} (N : Addition A) where
  -- ---- functions that agree on every term that passes a test
  pub sum_agree : (f : List ℕ → ℤ → Bool) (g h : List ℕ → ℤ → A) → ((k : List ℕ) (c : ℤ) → T (f k c) → g k c ≡ h k c)
      → (p : Terms) → T (every f p) → sum N g p ≡ sum N h p
  sum_agree f g h e [] t = sum_nil N g ∙ sym (sum_nil N h)
  sum_agree f g h e (s ∷ p) t = sum_cons N g s p
      ∙ ap₂ N.plus (e s.exponents s.coefficient (every_head f s p t))
      (sum_agree f g h e p (every_tail f s p t))
      ∙ sym (sum_cons N h s p)

  -- ---- products
  module _ (g : List ℕ → ℤ → A) where
    -- g of the product with a term
    abbrev pub with_term : List ℕ → ℤ → List ℕ → ℤ → A
    with_term k c j d = g (add_exponents k j) (c *ℤ d)

    sum_times : (t : Term ℤ) (q : Terms) → sum N g (times ℤR t q) ≡ sum N (with_term t.exponents t.coefficient) q
    unfolding times
    sum_times t [] = sum_nil N g ∙ sym (sum_nil N (with_term t.exponents t.coefficient))
    sum_times t (s ∷ q) = sum_cons N g _ _
        ∙ ap (N.plus (with_term t.exponents t.coefficient s.exponents s.coefficient)) (sum_times t q)
        ∙ sym (sum_cons N (with_term t.exponents t.coefficient) s q)

    -- a double sum
    pub sum_product : (p q : Terms) → sum N g (product ℤR p q) ≡ sum N (λ k c. sum N (with_term k c) q) p
    unfolding product
    sum_product [] q = sum_nil N g ∙ sym (sum_nil N (λ k c. sum N (with_term k c) q))
    sum_product (t ∷ p) q = sum-++ N g (times ℤR t q) (product ℤR p q)
        ∙ ap₂ N.plus (sum_times t q) (sum_product p q)
        ∙ sym (sum_cons N (λ k c. sum N (with_term k c) q) t p)
