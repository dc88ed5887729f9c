-- Ordered commutative rings, and the absolute value.
use Rattle.std.specs.Prelude.{◌≡◌, ◌⊎◌}
use Rattle.std.proofs.Common.{inl, inr}
use Rattle.algebra.specs.Ring.{Ring}

-- a commutative ring with a total order that sums and products of what is not negative respect
pub record Ordered : Type 1 where
  infix 50 ◌≤◌
  pub ring : Ring
  pub ◌≤◌ : ring.Carrier → ring.Carrier → Type 0
  pub ≤-refl : (a : ring.Carrier) → a ≤ a
  pub ≤_trans : {a b c : ring.Carrier} → a ≤ b → b ≤ c → a ≤ c
  pub ≤-antisym : {a b : ring.Carrier} → a ≤ b → b ≤ a → a ≡ b
  pub ≤-total : (a b : ring.Carrier) → a ≤ b ⊎ b ≤ a
  pub ≤-add : {a b : ring.Carrier} (c : ring.Carrier) → a ≤ b → ring.◌+◌ a c ≤ ring.◌+◌ b c
  pub ≤-mul : {a b : ring.Carrier} → ring.0# ≤ a → ring.0# ≤ b → ring.0# ≤ ring.◌*◌ a b

module _ (O : Ordered) where
  open O use {ring as R, ≤-total}
  open R use {Carrier, 0#, neg}

  -- the absolute value
  unfoldable pub abs : Carrier → Carrier
  abs a = elim (≤-total 0# a) [ inl h ↦ a | inr h ↦ neg a ]
