-- Whole numbers and multiples of 1/U among the fractions.
use Rattle.std.specs.Prelude.{◌≡◌, refl, ℕ, suc, ◌*◌, ◌+◌, ◌≤◌, ℤ, pos, negsuc, nat_abs}
use Rattle.std.proofs.Common.{sym, ◌∙◌, ap, arith, le→leb}
use Rattle.std.specs.Int.Signed.{le_z_yes}
use Rattle.algebra.specs.RingLaws.{one-*}
use Rattle.algebra.specs.RingSolver.{◌⊠◌, ring}
use Rattle.algebra.specs.Ordered.{abs}
use Rattle.algebra.specs.OrderedLaws.{abs_pos, abs_mul, abs_is, abs_is⁻, *-mono}
use Rattle.algebra.specs.FieldLaws.{reciprocal_nonneg}
use Rattle.algebra.proofs.Rational.{ℚ, ◌+ℚ◌, ◌*ℚ◌, whole, ◌≤ℚ◌, reciprocal}
use Rattle.algebra.proofs.RationalRing.{ℚR}
use Rattle.algebra.proofs.RationalOrder.{ℚO}
use Rattle.algebra.proofs.RationalLaws.{whole-+, whole-*, whole_neg, whole_≤, whole_reciprocal, ÷-back}
use Rattle.algebra.proofs.RationalField.{ℚF}
use Rattle.numbers.specs.Fixed.{U}
use Rattle.numbers.proofs.FixedLaws.{U_suc}
use Rattle.calculus.specs.Model.{◌/U}
use Rattle.calculus_laws.specs.ChainLaws.{◌≡≤◌, ◌≤≡◌}

-- ---- natural numbers
abbrev pub natural : ℕ → ℚ
natural n = whole (pos n)

pub natural-+ : (m n : ℕ) → natural (m + n) ≡ natural m +ℚ natural n
natural-+ m n = whole-+ (pos m) (pos n)

pub natural-* : (m n : ℕ) → natural (m * n) ≡ natural m *ℚ natural n
natural-* m n = whole-* (pos m) (pos n)

pub natural_≤ : (m n : ℕ) → m ≤ n → natural m ≤ℚ natural n
natural_≤ m n h = whole_≤ (le_z_yes (le→leb m n h))

pub natural_nonneg : (n : ℕ) → natural 0 ≤ℚ natural n
natural_nonneg n = natural_≤ 0 n (omega arith)

pub abs_whole : (z : ℤ) → abs ℚO (whole z) ≡ natural (nat_abs z)
abs_whole (pos n) = abs_is ℚO (natural_nonneg n) refl
abs_whole (negsuc n) = abs_is⁻ ℚO (natural_nonneg (suc n)) (whole_neg (pos (suc n)))

-- ---- multiples of 1/U
pub U_inverse : natural U *ℚ reciprocal U ≡ natural 1
U_inverse = whole_reciprocal U (omega (arith, U_suc))

-- times U
pub U_times : (z : ℤ) → natural U *ℚ z /U ≡ whole z
unfolding ◌/U
U_times z = ÷-back (whole z) U (omega (arith, U_suc))

pub U_times_≤ : {x y : ℚ} → x ≤ℚ y → natural U *ℚ x ≤ℚ natural U *ℚ y
U_times_≤ {x} {y} h = ℚR.*-comm (natural U) x
    ≡≤ *-mono ℚO (natural_nonneg U) h
    ≤≡ ℚR.*-comm y (natural U)

-- U x ≤ U y gives x ≤ y
pub U_cancel : (x y : ℚ) → natural U *ℚ x ≤ℚ natural U *ℚ y → x ≤ℚ y
U_cancel x y h = sym (back x) ≡≤ *-mono ℚO (reciprocal_nonneg ℚF U (omega (arith, U_suc))) h ≤≡ back y
  where
    back : (z : ℚ) → natural U *ℚ z *ℚ reciprocal U ≡ z
    back z = ring 3 ℚR (λ u z v. u ⊠ z ⊠ v) (λ u z v. (u ⊠ v) ⊠ z) refl (natural U) z (reciprocal U)
        ∙ ap (λ w. w *ℚ z) U_inverse ∙ one-* ℚR z

-- |U a| is U |a|
pub U_abs : (a : ℚ) → abs ℚO (natural U *ℚ a) ≡ natural U *ℚ abs ℚO a
U_abs a = abs_mul ℚO (natural U) a ∙ ap (λ z. z *ℚ abs ℚO a) (abs_pos ℚO (natural_nonneg U))
