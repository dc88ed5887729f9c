-- How large a range is.
use Rattle.std.specs.Prelude.{◌+◌, ◌≤◌, nat_abs}
use Rattle.std.proofs.Common.{arith}
use Rattle.calculus.specs.Terms.{select, size}
use Rattle.calculus_laws.specs.SumLaws.{ℕ_addition, sum_split}
use Rattle.calculus.specs.Model.{Model, span}
use Rattle.calculus.specs.Operations.{is_constant, constant_part, below, above}
use Rattle.calculus.specs.SymmetricRange.{variation}
use Rattle.calculus_laws.specs.RangeInsideLaws.{below_varies, above_varies}
use Rattle.model_types.specs.ModelStructLaws.{sum_abs}

-- the constant part and what varies are within the span
range_within : (m : Model) → nat_abs (constant_part m) + variation m ≤ span m
unfolding constant_part variation span size
range_within m = omega (
  arith,
  sum_abs (λ k c. nat_abs c) (λ k c. c) (λ k c. omega arith) (select (λ k c. is_constant k) m.terms),
  sum_split ℕ_addition (λ k c. nat_abs c) (λ k c. is_constant k) m.terms,
)

-- so are the constant part and what is below it, or above it
pub below_within : (m : Model) → nat_abs (constant_part m) + below m ≤ span m
below_within m = omega (arith, range_within m, below_varies m)

pub above_within : (m : Model) → nat_abs (constant_part m) + above m ≤ span m
above_within m = omega (arith, range_within m, above_varies m)
