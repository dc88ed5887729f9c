-- A named list of definitions: a fact that computes opens all of them by `unfolding` one name.
use Rattle.calculus.specs.Computing.{calls}
use Rattle.chebyshev.specs.Recurrence as R
use Rattle.chebyshev.specs.Coefficients as C
use Rattle.chebyshev.specs.PowerRows as P
use Rattle.chebyshev.specs.Tables as T
use Rattle.chebyshev.specs.Curve as Cu
use Rattle.chebyshev.specs.CurveOperations as O
use Rattle.chebyshev.specs.CurveCalls as Ca

-- the calls on curves, and all that they rest on
unfoldable pub curve_calls : Unit {0}
unfolding
    calls
    R.apart C.sum C.scale C.size C.add_at C.products_of C.products_from
    P.places P.zeros P.combine T.chebyshev_table T.power_scale T.power_table
    Cu.zero_curve Cu.span Cu.sound
    O.limited_curve O.negate O.added O.add O.subtract O.residuals O.swept O.rounded
    O.products O.carried O.multiplied O.multiply O.constant_part O.variation O.range
    O.terms_from O.in_powers O.to_powers O.row_of O.in_chebyshev O.from_powers
    Ca.call_negate Ca.call_range Ca.require_two Ca.call_add Ca.call_subtract Ca.call_multiply
    Ca.call_to_powers Ca.call_from_powers Ca.returned_curve
curve_calls = tt
