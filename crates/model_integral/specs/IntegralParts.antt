-- How many parts of the common denominator an integral can have.
use Rattle.std.specs.Prelude.{ℕ, ◌*◌}
use Rattle.numbers.specs.Fixed.{span_limit}
use Rattle.calculus.specs.Model.{Model}
use Rattle.calculus.specs.Operations.{common_denominator, mixed_part, exact_ends, Integral}

-- the most for a sound model: the volume of the box is at most 16
unfoldable pub most_parts : ℕ
most_parts = span_limit * (16 * common_denominator)

-- what is answered in up to four variables
unfoldable pub exact_integral : Model → Integral
exact_integral m = record { ends = exact_ends m; exact = mixed_part m }
