-- `plane` keeps what order d keeps of the lines of a plane, one after the other.
use Prim.Native.Nat.{◌+◌, ◌-◌, ◌*◌}
use Rattle.product_grid_scan.specs.GridTerms.{steps_within, second_step, line_terms}
use Rattle.product_rising.specs.RisingLaws.{Held}
use Rattle.product_grid_scan.proofs.plane.Given as goal

abbrev pub invariant-loop-i : goal.invariant-loop-i
invariant-loop-i l =
    Held (λ j.
    line_terms l.sums l.degrees l.fourth ((l.at + j) * l.third) (steps_within l.third (l.left - j))
    (l.key + second_step * j)
    (l.left - j)) l.n l.d l.from l.initial.kept l.initial.coefficients l.kept l.coefficients l.count l.rounding l.swept
    l.i
