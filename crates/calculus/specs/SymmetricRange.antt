-- The range without a rule for even powers: every term but the constant counts as lying between -|c| and |c|. No
-- operation uses it. RangeInsideLaws measures the range by it.
use Rattle.std.specs.Prelude.{Bool, not, ◌&&◌, ℕ, ◌+◌, pos, neg_ℤ, ◌+ℤ◌, ◌-ℤ◌}
use Rattle.std.specs.Int.Signed.{le_z}
use Rattle.numbers.specs.Fixed.{U}
use Rattle.calculus.specs.Terms.{select, size}
use Rattle.calculus.specs.Model.{Model}
use Rattle.calculus.specs.Operations.{Ends, is_constant, constant_part}

-- the sum of the |c| other than the constant one, and e
unfoldable pub variation : Model → ℕ
variation m = size (select (λ k c. not (is_constant k)) m.terms) + m.radius

-- the constant coefficient, minus and plus that sum
unfoldable pub symmetric_range : Model → Ends
symmetric_range m = record { low = constant_part m -ℤ pos (variation m); high = constant_part m +ℤ pos (variation m) }

-- it lies from -U to U
unfoldable pub symmetric_in_box : Model → Bool
symmetric_in_box m = le_z (neg_ℤ (pos U)) (symmetric_range m).low && le_z (symmetric_range m).high (pos U)
