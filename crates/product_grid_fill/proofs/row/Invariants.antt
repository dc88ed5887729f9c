-- `row` adds the products of one term with each of a list.
use mathlib.Core.Path.{◌≡◌}
use mathlib.Core.List.{List}
use Prim.Native.Nat.{ℕ, ◌≤◌}
use lib.IntN.{ℤ}
use lib.ListN.{length, take}
use Rattle.algebra.specs.IntegerRing.{ℤR}
use Rattle.polynomial.specs.Polynomial.{times}
use Rattle.product_sums.specs.TermArrays.{at_key, terms}
use Rattle.product_grid_fill.specs.Filling.{RowFits, Filled}
use Rattle.product_grid_fill.proofs.row.Given as goal

-- the first j products are added, in whatever grid they fit
pub record Held (sums₀ : List ℤ) (degrees₀ : List ℕ) (at : ℕ) (c : ℤ) (cb : List ℤ) (ib : List ℕ) (count : ℕ)
    (sums : List ℤ) (degrees : List ℕ) (j : ℕ) : Type 0 where
  pub on : j ≤ count
  pub sums_long : length sums ≡ length sums₀
  pub degrees_long : length degrees ≡ length degrees₀
  pub filled : (w : RowFits sums₀ degrees₀ at c cb ib count)
      → Filled w.sides sums₀ (times ℤR (at_key w.key c) (take j (terms count w.kb cb))) sums degrees

abbrev pub invariant-loop-j : goal.invariant-loop-j
invariant-loop-j l =
    Held l.initial.sums l.initial.degrees l.at l.c l.cb l.ib l.count l.sums l.degrees l.j
