-- `line` keeps what order d keeps of the rows of a line, one after the other.
use Prim.Native.Nat.{◌+◌, ◌-◌, ◌*◌}
use Rattle.product_grid_scan.specs.GridTerms.{steps_within, third_step, row_terms}
use Rattle.product_rising.specs.RisingLaws.{Held}
use Rattle.product_grid_scan.proofs.line.Given as goal

abbrev pub invariant-loop-i : goal.invariant-loop-i
invariant-loop-i l =
    Held (λ j. row_terms l.sums l.degrees ((l.at + j) * l.fourth) (steps_within l.fourth (l.left - j))
    (l.key + third_step * j)) l.n l.d
    l.from l.initial.kept l.initial.coefficients l.kept l.coefficients l.count l.rounding l.swept l.i
