-- Commutative rings with 1, and in each of them the natural numbers and powers.
use Rattle.std.specs.Prelude.{◌≡◌, ℕ, zero, suc}

-- a commutative ring with 1
pub record Ring : Type 1 where
  infixl 60 ◌+◌
  infixl 70 ◌*◌
  pub Carrier : Type 0
  pub 0# : Carrier
  pub 1# : Carrier
  pub ◌+◌ : Carrier → Carrier → Carrier
  pub ◌*◌ : Carrier → Carrier → Carrier
  pub neg : Carrier → Carrier
  pub +_assoc : (a b c : Carrier) → (a + b) + c ≡ a + (b + c)
  pub +_comm : (a b : Carrier) → a + b ≡ b + a
  pub +-zero : (a : Carrier) → a + 0# ≡ a
  pub +-neg : (a : Carrier) → a + neg a ≡ 0#
  pub *-assoc : (a b c : Carrier) → (a * b) * c ≡ a * (b * c)
  pub *-comm : (a b : Carrier) → a * b ≡ b * a
  pub *-one : (a : Carrier) → a * 1# ≡ a
  pub dist : (a b c : Carrier) → (a + b) * c ≡ a * c + b * c

module _ (R : Ring) where
  open R use {Carrier, 0#, 1#, ◌+◌, ◌*◌, neg}

  infixl 60 ◌+◌
  infixl 70 ◌*◌
  -- a natural number in the ring: that many times 1
  unfoldable pub nat : ℕ → Carrier
  nat zero = 0#
  nat (suc n) = 1# + nat n

  -- x multiplied n times
  unfoldable pub pow : Carrier → ℕ → Carrier
  pow x zero = 1#
  pow x (suc n) = x * pow x n
