-- All products summed by key, and the answer for a product.
use Rattle.std.specs.Prelude.{◌≡◌, List, [], ◌∷◌, ℕ, ◌≤◌, ℤ, length}
use Rattle.algebra.specs.IntegerRing.{ℤR}
use Rattle.polynomial.specs.Polynomial.{product}
use Rattle.calculus.specs.Terms.{Terms, drop_zeros}
use Rattle.calculus.specs.Model.{Model, most_terms}
use Rattle.calculus.specs.Operations.{products, kept, rounding, swept}
use Rattle.product_sums.specs.TermArrays.{terms, accumulated}
use Rattle.product_sums.specs.declared.Gathered.{Gathered}
use Rattle.product_sums.specs.Wide.{wide_terms}
use Rattle.product_sums.specs.Kept.{counted, Gathering}

-- the terms of q put to those of p, one after the other
unfoldable pub accumulated_all : (p q : Terms) → Terms
accumulated_all p [] = p
accumulated_all p (t ∷ q) = accumulated_all (accumulated t p) q

-- what order d keeps of the products of two lists of terms in arrays, summed by key: r, and the kept terms in arrays
abbrev pub ProductGathered : (d na : ℕ) (ka : List ℕ) (ca : List ℤ) (nb : ℕ) (kb : List ℕ) (cb : List ℤ)
    (kept_keys : List ℕ) (coefficients : List ℤ) → Gathered → Type 0
ProductGathered d na ka ca nb kb cb = Gathering d (accumulated_all [] (product ℤR (terms na ka ca) (terms nb kb cb)))

-- what is answered for the product of two models at order d
unfoldable pub gathered_product : (d : ℕ) (f g : Model) → Gathered
gathered_product d f g =
    counted (length (drop_zeros (kept d (products f g)))) (rounding d (products f g)) (swept d (products f g))

-- the answer of a product of f and g at order d; unless there are too many, its terms stand by their wide keys
pub record Answered (d : ℕ) (f g : Model) (kept_keys : List ℕ) (coefficients : List ℤ) (r : Gathered) : Type 0 where
  pub answered : r ≡ gathered_product d f g
  pub terms : length (drop_zeros (kept d (products f g))) ≤ most_terms
      → terms r.count kept_keys coefficients ≡ wide_terms (drop_zeros (kept d (products f g)))
