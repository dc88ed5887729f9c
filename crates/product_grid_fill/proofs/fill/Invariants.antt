-- `fill` adds one row of products after the other.
use mathlib.Core.Path.{◌≡◌}
use mathlib.Core.List.{List, []}
use Prim.Native.Nat.{ℕ, ◌≤◌}
use lib.IntN.{ℤ}
use lib.ListN.{length, take}
use Rattle.algebra.specs.IntegerRing.{ℤR}
use Rattle.polynomial.specs.Polynomial.{product}
use Rattle.product_sums.specs.TermArrays.{terms}
use Rattle.product_grid_fill.specs.Filling.{Filled, AllFit}
use Rattle.product_grid_fill.proofs.fill.Given as goal

-- the products of the first i terms are added, in whatever grid they fit
pub record Held (sums₀ : List ℤ) (degrees₀ : List ℕ) (ca : List ℤ) (ia : List ℕ) (na : ℕ) (cb : List ℤ) (ib : List ℕ)
    (nb : ℕ) (sums : List ℤ) (degrees : List ℕ) (i : ℕ) : Type 0 where
  pub on : i ≤ na
  pub sums_long : length sums ≡ length sums₀
  pub degrees_long : length degrees ≡ length degrees₀
  pub filled : (w : AllFit sums₀ degrees₀ ca ia na cb ib nb)
      → Filled w.sides [] (product ℤR (take i (terms na w.ka ca)) (terms nb w.kb cb)) sums degrees

abbrev pub invariant-loop-i : goal.invariant-loop-i
invariant-loop-i l = Held l.initial.sums l.initial.degrees l.ca l.ia l.na l.cb l.ib l.nb l.sums l.degrees l.i
