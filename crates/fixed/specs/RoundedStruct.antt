-- What rounding to the unit gives and leaves, as the code answers it.
use Rattle.std.specs.Prelude.{ℤ}
use Rattle.numbers.specs.Fixed.{round, residual}
use Rattle.fixed.specs.declared.Rounded.{Rounded}

-- both
abbrev pub rounded : ℤ → Rounded
rounded z = record { coefficient = round z; residual = residual z }
