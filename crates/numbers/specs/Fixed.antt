-- Fixed point: the unit, the span limit, rounding to the unit and what it leaves, sums that stop above the limit.
use Rattle.std.specs.Prelude.{ℕ, ◌+◌, ◌^◌, min, ℤ, pos, ◌-ℤ◌, ◌*ℤ◌, nat_abs}
use Rattle.numbers.specs.Division.{nearest, divided_up}

-- a whole number c stands for c / U
unfoldable pub U : ℕ
U = 2 ^ 20

-- the largest span: document 01's term for the size of a model's coefficients and radius together
unfoldable pub span_limit : ℕ
span_limit = 2 ^ 30

-- z / U rounded to the nearest, halfway to the even
unfoldable pub round : ℤ → ℤ
round z = nearest z U

-- |z − c U| for c = round z
unfoldable pub residual : ℤ → ℕ
residual z = nat_abs (z -ℤ round z *ℤ pos U)

-- E / U rounded up
unfoldable pub round_up : ℕ → ℕ
round_up E = divided_up E U

-- s, or just above the span limit where s is larger
unfoldable pub capped : ℕ → ℕ
capped s = min s (span_limit + 1)
