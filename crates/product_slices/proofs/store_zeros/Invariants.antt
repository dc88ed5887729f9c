-- `store_zeros` stores one zero after the other.
use mathlib.Core.Path.{◌≡◌, refl, ◌∙◌}
use Prim.Native.Nat.{◌-◌, ◌≤◌}
use native.Mathlib.Omega.{arith}
use borrow.Author.Rules.{rules}
use lib.IntN.{pos}
use lib.ListN.{length, length-set}
use Rattle.calculus.specs.Model.{most_terms}
use Rattle.product_slices.specs.KeptPlaces.{zeroed}
use Rattle.product_slices.specs.KeptPlacesLaws.{zeroed_none, zeroed_more}
use Rattle.product_slices.proofs.store_zeros.Given as goal

abbrev pub invariant-loop-i : goal.invariant-loop-i
invariant-loop-i l =
    (l.from ≤ l.i) × (l.i ≤ 64) × (length l.keys ≡ length l.initial.keys)
    × (length l.coefficients ≡ length l.initial.coefficients)
    × (l.keys ≡ zeroed 0 l.from l.i l.initial.keys)
    × (l.coefficients ≡ zeroed (pos 0) l.from l.i l.initial.coefficients)
