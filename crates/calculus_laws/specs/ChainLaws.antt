-- Chains of equations and inequalities between fractions, read from left to right.
use Rattle.std.specs.Prelude.{◌≡◌}
use Rattle.std.proofs.Common.{sym, subst}
use Rattle.algebra.proofs.Rational.{ℚ, ◌≤ℚ◌}
use Rattle.algebra.proofs.RationalOrder.{≤ℚ_refl, ≤ℚ_trans}

infixr 20 ◌≤≤◌ ◌≡≤◌ ◌≤≡◌
pub ◌≤≤◌ : {x y z : ℚ} → x ≤ℚ y → y ≤ℚ z → x ≤ℚ z
◌≤≤◌ h k = ≤ℚ_trans h k

pub ◌≡≤◌ : {x y z : ℚ} → x ≡ y → y ≤ℚ z → x ≤ℚ z
◌≡≤◌ {z = z} e h = subst (λ x. x ≤ℚ z) (sym e) h

pub ◌≤≡◌ : {x y z : ℚ} → x ≤ℚ y → y ≡ z → x ≤ℚ z
◌≤≡◌ {x} h e = subst (λ z. x ≤ℚ z) e h

-- an equation alone
pub equal : {x y : ℚ} → x ≡ y → x ≤ℚ y
equal {x} e = subst (λ y. x ≤ℚ y) e (≤ℚ_refl x)
