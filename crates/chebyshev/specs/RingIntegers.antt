-- The integers in any ring.
use Rattle.std.specs.Prelude.{suc, ℤ, pos, negsuc}
use Rattle.algebra.specs.Ring.{Ring, nat}

module _ (R : Ring) where
  open R use {Carrier, neg}

  -- an integer in the ring
  unfoldable pub int : ℤ → Carrier
  int (pos n) = nat R n
  int (negsuc n) = neg (nat R (suc n))
