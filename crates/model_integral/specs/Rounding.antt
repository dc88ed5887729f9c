-- The rounding of a quotient as a choice.
use Rattle.std.specs.Prelude.{Bool, true, false, ℕ, ℤ}
use Rattle.numbers.specs.Division.{floor, ceiling}

-- up or down
unfoldable pub rule : (up : Bool) → ℤ → ℕ → ℤ
rule true = ceiling
rule false = floor
