-- The Chebyshev polynomials' values in any ring, by the recurrence.
use Rattle.std.specs.Prelude.{ℕ, zero, suc}
use Prim.Native.Nat as N
use Rattle.algebra.specs.Ring.{Ring}

-- how far two numbers are apart: |i - j|
unfoldable pub apart : ℕ → ℕ → ℕ
apart i j = N.◌+◌ (N.◌-◌ i j) (N.◌-◌ j i)

module _ (R : Ring) where
  open R use {Carrier, 1#, ◌+◌, ◌*◌, neg}

  infixl 60 ◌+◌
  infixl 70 ◌*◌
  -- T_k at x: T_0 is 1, T_1 is x, and T_(k+2) is 2 x T_(k+1) - T_k
  unfoldable pub chebyshev : Carrier → ℕ → Carrier
  chebyshev x zero = 1#
  chebyshev x (suc zero) = x
  chebyshev x (suc (suc k)) = x * chebyshev x (suc k) + x * chebyshev x (suc k) + neg (chebyshev x k)
