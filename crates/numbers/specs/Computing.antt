-- The one list of definitions of the numbers layer that other layers open, for facts that compute: tables of samples
-- and of edge cases. Everything else there knows the numbers by their laws.
use Rattle.numbers.specs.Division.{floor, ceiling, remainder, divided_up, is_even, even_of_two, nearest}
use Rattle.numbers.specs.Fixed.{U, span_limit, round, residual, round_up}

-- opened by its name
unfoldable pub numbers : Unit {0}
unfolding floor ceiling remainder divided_up is_even even_of_two nearest U span_limit round residual round_up
numbers = tt
