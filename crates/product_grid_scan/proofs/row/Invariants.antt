-- `row` keeps what order d keeps of the sums in a row, one after the other.
use mathlib.Core.List.{[], ◌∷◌}
use Prim.Native.Nat.{◌+◌, ◌*◌}
use lib.IntN.{pos}
use lib.ListN.{get_or}
use Rattle.product_sums.specs.TermArrays.{at_key}
use Rattle.product_grid_scan.specs.GridTerms.{fourth_step}
use Rattle.product_rising.specs.RisingLaws.{Held}
use Rattle.product_grid_scan.proofs.row.Given as goal

abbrev pub invariant-loop-i : goal.invariant-loop-i
invariant-loop-i l =
    Held (λ j. at_key (l.key + fourth_step * j + get_or l.degrees (l.at + j) 0) (get_or l.sums (l.at + j) (pos 0)) ∷ [])
    l.n l.d l.from
    l.initial.kept l.initial.coefficients l.kept l.coefficients l.count l.rounding l.swept l.i
