-- The terms and shares of a product, and the terms of a sum, are known by the coefficient at each monomial alone,
-- in whatever order they were collected.
use Rattle.std.specs.Prelude.{◌≡◌, refl, Bool, true, false, List, ◌++◌, ℕ, ◌+◌, ◌*◌, T, ℤ, pos, ◌+ℤ◌}
use Rattle.std.proofs.Common.{sym, ◌∙◌, ap, arith}
use Rattle.std.proofs.Math.Dec.{leb}
use Rattle.std.proofs.Math.IntN.{nat_abs}
use Rattle.algebra.specs.IntegerRing.{ℤR}
use Rattle.polynomial.specs.Polynomial.{product}
use Rattle.numbers.specs.Fixed.{U, round, residual, round_up}
use Rattle.numbers.proofs.FixedLaws.{round_zero, residual_zero, round_up_ok}
use Rattle.calculus.specs.Monomial.{degree}
use Rattle.calculus.specs.Terms.{Terms, select, sum_over, size, rising, is_nonzero, nonzero, drop_zeros, collect}
use Rattle.calculus.specs.Model.{Model}
use Rattle.calculus.specs.Operations.{products, within_order, above_order, carried, rounding, swept, error, slack}
use Rattle.calculus.specs.Operations.{kept}
use Rattle.calculus_laws.specs.TermsLaws.{rising_select, rising_map_coefficients, rising_collect}
use Rattle.calculus_laws.specs.TermsLaws.{nonzero_drop_zeros}
use Rattle.calculus_laws.specs.SumLaws.{if_ℤ, Addition, ℕ_addition, if_so, if_so_nothing, sum_select}
use Rattle.calculus_laws.specs.CanonicalLaws.{coefficient_at, SameCoefficients, coefficient-++}
use Rattle.calculus_laws.specs.CanonicalLaws.{coefficient_collect}
use Rattle.calculus.specs.Terms.{distinct}
use Rattle.calculus_laws.specs.CanonicalLaws.{coefficient_drop_zeros, rising_distinct, distinct_select}
use Rattle.calculus_laws.specs.CanonicalLaws.{coefficient_select, coefficient_map, canonical_unique}
use Rattle.calculus_laws.specs.CanonicalLaws.{canonical_rising, canonical_coefficients, sum_same}

-- ---- sums
module _ (p q : Terms) (dp : T (distinct p)) (dq : T (distinct q)) (h : SameCoefficients p q) where
  -- a sum over selected terms depends on the coefficients alone
  pub sum_select_same : {A : Type 0} (N : Addition A) (g : List ℕ → ℤ → A) (f : List ℕ → ℤ → Bool)
      → ((k : List ℕ) → g k (pos 0) ≡ N.nothing)
      → sum_over N.plus N.nothing g (select f p) ≡ sum_over N.plus N.nothing g (select f q)
  sum_select_same N g f z = sum_select N g f p
      ∙ sum_same N (λ k c. if_so N (f k c) (g k c))
      (λ k. ap (if_so N (f k (pos 0))) (z k) ∙ if_so_nothing N (f k (pos 0))) p q dp dq h
      ∙ sym (sum_select N g f q)

  pub size_same : size p ≡ size q
  unfolding size
  size_same = sum_same ℕ_addition (λ k c. nat_abs c) (λ k. refl) p q dp dq h

  pub rounding_same : (d : ℕ) → rounding d p ≡ rounding d q
  unfolding rounding within_order
  rounding_same d = sum_select_same ℕ_addition (λ k z. residual z) (λ k z. leb (degree k) d) (λ k. residual_zero)

  pub swept_same : (d : ℕ) → swept d p ≡ swept d q
  unfolding swept above_order size
  swept_same d = sum_select_same ℕ_addition (λ k z. nat_abs z) _ (λ k. refl)

-- ---- terms
pub products_rising : (f g : Model) → T (rising (products f g))
unfolding products
products_rising f g = rising_collect (product ℤR f.terms g.terms)

pub products_distinct : (f g : Model) → T (distinct (products f g))
products_distinct f g = rising_distinct (products f g) (products_rising f g)

pub products_coefficients : (f g : Model) → SameCoefficients (products f g) (product ℤR f.terms g.terms)
unfolding products
products_coefficients f g k = coefficient_collect k (product ℤR f.terms g.terms)

-- the coefficient that order d keeps of z at the monomial k
abbrev pub kept_coefficient : ℕ → List ℕ → ℤ → ℤ
kept_coefficient d k z = if_ℤ (leb (degree k) d) (round z)

pub coefficient_kept : (d : ℕ) (p : Terms) → T (distinct p) → (k : List ℕ)
    → coefficient_at (kept d p) k ≡ kept_coefficient d k (coefficient_at p k)
unfolding kept within_order if_so
coefficient_kept d p dp k = coefficient_map round round_zero _ (distinct_select (λ j z. leb (degree j) d) p dp) k
    ∙ ap round (coefficient_select (λ j. leb (degree j) d) p k) ∙ go (leb (degree k) d)
  where
    go : (b : Bool) → round (if_ℤ b (coefficient_at p k))
        ≡ if_ℤ b (round (coefficient_at p k))
    go true = refl
    go false = round_zero

pub kept_rising : (d : ℕ) (p : Terms) → T (rising p) → T (rising (drop_zeros (kept d p)))
unfolding drop_zeros kept within_order
kept_rising d p h = rising_select (λ k c. is_nonzero c) _
    (rising_map_coefficients round _ (rising_select (λ k z. leb (degree k) d) p h))

-- a rising list of nonzero terms with the kept coefficients is the product's
pub product_terms : (d : ℕ) (f g : Model) (r : Terms) → T (rising r) → T (nonzero r)
    → ((k : List ℕ) → coefficient_at r k ≡ kept_coefficient d k (coefficient_at (product ℤR f.terms g.terms) k))
    → r ≡ drop_zeros (kept d (products f g))
product_terms d f g r hr hn h = canonical_unique r _ hr (kept_rising d (products f g) (products_rising f g)) hn
    (nonzero_drop_zeros (kept d (products f g)))
    (λ k. h k ∙ sym
    (coefficient_drop_zeros k (kept d (products f g)) ∙ coefficient_kept d (products f g) (products_distinct f g) k
    ∙ ap (kept_coefficient d k) (products_coefficients f g k)))

-- and with the sums of the coefficients it is the sum's
pub sum_terms : (p q r : Terms) → T (rising r) → T (nonzero r)
    → ((k : List ℕ) → coefficient_at r k ≡ coefficient_at p k +ℤ coefficient_at q k) → r ≡ drop_zeros (collect (p ++ q))
sum_terms p q r hr hn h = canonical_unique r _ hr (canonical_rising (p ++ q)) hn (nonzero_drop_zeros (collect (p ++ q)))
    (λ k. h k ∙ sym (canonical_coefficients (p ++ q) k ∙ coefficient-++ k p q))

-- ---- the four shares are the new radius, in units of 1/U²
pub shares : (d : ℕ) (f g : Model)
    → carried f g + rounding d (products f g) + swept d (products f g) + slack d f g ≡ U * round_up (error d f g)
unfolding slack error
shares d f g = let h = round_up_ok (error d f g) in omega arith
