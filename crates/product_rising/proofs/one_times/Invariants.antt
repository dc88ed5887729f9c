-- `one_times` keeps what order d keeps of the products of one term with others, one after the other.
use Rattle.product_rising.specs.RisingLaws.{Held}
use Rattle.product_rising.specs.OneTermLaws.{one_part}
use Rattle.product_rising.proofs.one_times.Given as goal

abbrev pub invariant-loop-i : goal.invariant-loop-i
invariant-loop-i l =
    Held (one_part l.key l.c l.kb l.cb) l.nb l.d 0 l.initial.kept l.initial.coefficients l.kept l.coefficients l.count
    l.rounding l.swept l.i
