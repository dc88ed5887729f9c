-- The list of definitions that rows of edge cases open.
use Rattle.std.specs.Int.Count.{count_trailing_zeros}
use Rattle.std.specs.Float.Ieee.{lt, odd, of_fields, of_bits}
use Rattle.doubles.specs.Doubles.{signed, numerator, denominator, is_finite, is_negative, units}
use Rattle.doubles.specs.Doubles.{coefficient, inexact, radius_up, model_of, converted, deliverable, call_doubles}

-- opened by its name
unfoldable pub conversions : Unit {0}
unfolding count_trailing_zeros odd of_fields of_bits lt signed numerator denominator is_finite is_negative units
    coefficient
    inexact radius_up model_of converted deliverable call_doubles
conversions = tt
