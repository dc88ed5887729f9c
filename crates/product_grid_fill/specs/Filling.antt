-- Sums in a grid: what stands at each place, and what is asked and promised where products are added.
use Rattle.std.specs.Prelude.{◌≡◌, List, ◌∷◌, [], ◌⊎◌, ℕ, ◌+◌, ◌^◌, ◌<◌, ◌≤◌, ℤ, pos, nat_abs, ◌+ℤ◌, length, get_or}
use Rattle.algebra.specs.IntegerRing.{ℤR}
use Rattle.polynomial.specs.Polynomial.{times, product}
use Rattle.calculus.specs.Terms.{Terms, size}
use Rattle.calculus_laws.specs.CanonicalLaws.{coefficient_at}
use Rattle.model_keys.specs.Keys.{wide_degree}
use Rattle.product_sums.specs.TermArrays.{at_key, terms}
use Rattle.product_grid_index.specs.declared.Sides.{Sides}
use Rattle.product_grid_index.specs.Grid.{place, word, Gridded}

-- a sum that is not 0 stands beside its monomial's degree
pub record Marked (s : Sides) (sums : List ℤ) (degrees : List ℕ) : Type 0 where
  pub short : (i : ℕ) → get_or degrees i 0 < 2 ^ 8
  pub told : (k : ℕ) → Gridded s k
      → (get_or sums (place s k) (pos 0) ≡ pos 0) ⊎ (get_or degrees (place s k) 0 ≡ wide_degree k)

-- the terms q are added to the sums that were there
pub record Filled (s : Sides) (before : List ℤ) (q : Terms) (sums : List ℤ) (degrees : List ℕ) : Type 0 where
  pub added : (k : ℕ) → Gridded s k
      → get_or sums (place s k) (pos 0) ≡ get_or before (place s k) (pos 0) +ℤ coefficient_at q (k ∷ [])
  pub grown : (i : ℕ) → i < s.size → nat_abs (get_or sums i (pos 0)) ≤ nat_abs (get_or before i (pos 0)) + size q
  pub marked : Marked s sums degrees

-- a grid, and terms at keys whose products with one more have places in it
pub record RowFits (sums : List ℤ) (degrees : List ℕ) (at : ℕ) (c : ℤ) (cb : List ℤ) (ib : List ℕ) (count : ℕ)
    : Type 0 where
  pub sides : Sides
  pub key : ℕ
  pub kb : List ℕ
  pub few_places : sides.size ≤ 2 ^ 32
  pub sums_room : sides.size ≤ length sums
  pub degrees_room : sides.size ≤ length degrees
  pub keys_long : count ≤ length kb
  pub coefficients_long : count ≤ length cb
  pub words_long : count ≤ length ib
  pub gridded : (j : ℕ) → j < count → Gridded sides (key + get_or kb j 0)
  pub words : (j : ℕ) → j < count → at + get_or ib j 0 ≡ word sides (key + get_or kb j 0)
  pub marked : Marked sides sums degrees
  pub small : (i : ℕ) → i < sides.size
      → nat_abs (get_or sums i (pos 0)) + size (times ℤR (at_key key c) (terms count kb cb)) < 2 ^ 63

-- a grid of zeros, and all products of two lists of terms
pub record AllFit (sums : List ℤ) (degrees : List ℕ) (ca : List ℤ) (ia : List ℕ) (na : ℕ) (cb : List ℤ) (ib : List ℕ)
    (nb : ℕ) : Type 0 where
  pub sides : Sides
  pub ka : List ℕ
  pub kb : List ℕ
  pub zeros : (i : ℕ) → i < sides.size → get_or sums i (pos 0) ≡ pos 0
  pub short : (i : ℕ) → get_or degrees i 0 < 2 ^ 8
  pub few_places : sides.size ≤ 2 ^ 32
  pub sums_room : sides.size ≤ length sums
  pub degrees_room : sides.size ≤ length degrees
  pub first_keys : na ≤ length ka
  pub first_coefficients : na ≤ length ca
  pub first_words : na ≤ length ia
  pub second_keys : nb ≤ length kb
  pub second_coefficients : nb ≤ length cb
  pub second_words : nb ≤ length ib
  pub gridded : (i j : ℕ) → i < na → j < nb → Gridded sides (get_or ka i 0 + get_or kb j 0)
  pub words : (i j : ℕ) → i < na → j < nb → get_or ia i 0 + get_or ib j 0 ≡ word sides (get_or ka i 0 + get_or kb j 0)
  pub small : size (product ℤR (terms na ka ca) (terms nb kb cb)) < 2 ^ 63

-- the sums of the terms p, each at its place beside its degree
pub record SummedUp (s : Sides) (p : Terms) (sums : List ℤ) (degrees : List ℕ) : Type 0 where
  pub sum : (k : ℕ) → Gridded s k → get_or sums (place s k) (pos 0) ≡ coefficient_at p (k ∷ [])
  pub marked : Marked s sums degrees
