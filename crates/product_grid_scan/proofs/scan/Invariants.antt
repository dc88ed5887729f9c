-- `scan` keeps what order d keeps of the planes of a grid, one after the other, or says that it is too much.
use Prim.Native.Nat.{◌-◌, ◌*◌}
use Rattle.product_grid_scan.specs.GridTerms.{steps_within, first_step, plane_terms}
use Rattle.product_rising.specs.RisingLaws.{Held}
use Rattle.product_grid_scan.proofs.scan.Given as goal

abbrev pub invariant-loop-i : goal.invariant-loop-i
invariant-loop-i l =
    Held (λ j.
    plane_terms l.sums l.degrees l.third l.fourth (j * l.second) (steps_within l.second (l.most - j)) (first_step * j)
    (l.most - j))
    l.n l.d 0 l.initial.kept l.initial.coefficients l.kept l.coefficients l.count l.rounding l.swept l.i
