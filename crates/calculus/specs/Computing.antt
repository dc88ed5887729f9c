-- Named lists of definitions: a fact that computes opens all of them by `unfolding` one name.
use Rattle.polynomial.specs.Polynomial as P
use Rattle.polynomial.specs.Integral as I
use Rattle.numbers.specs.Computing as F
use Rattle.calculus.specs.Monomial as Mo
use Rattle.calculus.specs.Key as K
use Rattle.calculus.specs.Terms as T
use Rattle.calculus.specs.Model as M
use Rattle.calculus.specs.Refusal as R
use Rattle.calculus.specs.Operations as O
use Rattle.calculus.specs.Tests as Te
use Rattle.calculus.specs.Calls as C
use Rattle.calculus.specs.Book as B
use Rattle.calculus.specs.Shares as S

-- the numbers and the polynomials below the models
unfoldable pub arithmetic : Unit {0}
unfolding
    P.add_exponents P.exponent P.without P.raise P.replace P.product P.times
    I.even I.first I.rest I.all_even I.divisor
    F.numbers
arithmetic = tt

-- models and the rules for them
unfoldable pub models : Unit {0}
unfolding
    Mo.degree Mo.zeros Mo.index_of Mo.single
    K.decode K.key_width
    T.every T.select T.sum_over T.size T.map_coefficients T.map_terms T.map_monomials
    T.rising_from T.rising T.is_nonzero T.nonzero T.drop_zeros T.insert T.collect
    M.zero_model M.one_model M.most_vars M.most_degree M.most_terms M.between M.span M.fits M.sound
models = tt

-- the operations
unfoldable pub operations : Unit {0}
unfolding
    R.require R.◌then◌
    O.limited O.constant O.variable O.negate O.add O.subtract
    O.products O.within_order O.above_order O.carried O.rounding O.swept O.error O.kept O.multiply
    O.is_constant O.constant_part O.even_powers O.can_fall O.can_rise O.below O.above O.range O.range_in_box
    O.largest_exponent O.part_terms O.part O.horner O.widen O.substitute
    O.bare O.defect O.deviation O.largest_end O.largest_value O.quotient_radius O.certified O.quotient
    O.raised O.divided O.is_inexact O.growth_rounding O.growth_swept O.antiderivative
    O.is_small O.sweep
    O.integral_sum O.term_by_term
    O.common_denominator O.has_exact O.integral_parts O.mixed_part O.zero_mixed O.exact_part O.one_if_any O.exact_ends
    O.integral
operations = tt

-- the run of a book
unfoldable pub runs : Unit {0}
unfolding
    arithmetic models operations
    R.at_place R.require_at R.require_each R.◌followed_by◌
    Te.vars_sound Te.order_sound Te.constant_sound Te.variable_sound Te.threshold_sound
    B.most_models B.most_steps B.limits_sound B.model_sound B.step_sound B.tested
    B.model_of B.result_of B.run_step B.run_steps B.last B.summary B.run_sound B.run
runs = tt

-- the rows that a run reports
unfoldable pub reports : Unit {0}
unfolding
    runs
    R.returned O.slack
    S.no_shares S.product_shares S.shares_of S.horner_shares S.carrying S.substitute_shares
    S.grown S.sweep_shares S.antiderivative_shares S.all_carried S.step_shares
    S.rows_of S.run_shares S.all_rows S.rows_sound S.reported S.shares_rows
reports = tt

-- the single calls, and what they hand back
unfoldable pub calls : Unit {0}
unfolding
    runs
    R.number R.returned
    O.zero_ends O.zero_mixed O.zero_integral O.whole_integral O.put_constants O.evaluate
    Te.all_zero Te.all_in_unit
    C.call_sound C.call_constant C.call_variable C.call_negate C.call_sweep C.call_range C.call_integral C.call_evaluate
    C.call_antiderivative
    C.require_two C.call_add C.call_subtract C.call_multiply C.call_substitute C.require_four C.call_quotient
    C.returned_model C.returned_ends C.returned_integral
calls = tt
