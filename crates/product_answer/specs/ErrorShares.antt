-- The shares of a product's error E by themselves.
use Rattle.std.specs.Prelude.{ℕ, ◌+◌, ◌-◌, ◌*◌}
use Rattle.numbers.specs.Fixed.{U, round_up}
use Rattle.calculus.specs.Shares.{Shares}

-- three shares of E, and what rounding E up adds
unfoldable pub error_shares : (carried rounding swept : ℕ) → Shares
error_shares c r s = record {
  carried = c;
  rounding = r;
  swept = s;
  slack = U * round_up (c + r + s) - (c + r + s);
}
