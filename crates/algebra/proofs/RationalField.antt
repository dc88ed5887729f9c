-- ℚ as an Archimedean ordered field.
use Rattle.std.proofs.Common.{◌∙◌, ap, arith}
use mathlib.Core.HLevel.{Π_prop}
use Rattle.std.specs.Prelude.{ℕ, zero, suc, ◌*◌, ◌≤◌, ℤ, pos, negsuc, ◌*ℤ◌, ◌≤ℤ◌}
use Rattle.std.proofs.Math.IntN.{zero-*ℤ}
use Rattle.std.specs.Int.Signed.{le_z_yes}
use Rattle.algebra.specs.Integer.{is, is_mul, is_nat, plus}
use Rattle.algebra.specs.IntegerRing.{ℤR, ℤO, le_of}
use Rattle.algebra.specs.Field.{Field}
use Rattle.algebra.specs.Fraction.{Frac, one_more, denominator, over_1, product}
use Rattle.algebra.proofs.FractionLaws.{one_more_zero, one_more_times}
use Rattle.algebra.proofs.Rational.{ℚ, class, ◌*ℚ◌, ◌≤ℚ◌, whole, reciprocal, product_class, ℚ_ind₂}
use Rattle.algebra.proofs.RationalOrder.{class_≤, ≤-class, ≤ℚ_prop, ℚO}
use Rattle.algebra.proofs.RationalLaws.{nat_whole, whole_reciprocal, reciprocal_class}

-- ---- Archimedes: n/d ≤ (m/e)/N, at N = m d + 1, would give n e N ≤ m d, so n is at most 0
archimedean_ℤ : (n m : ℤ) (d e : ℕ) → ((k : ℕ) → (n *ℤ (one_more e *ℤ one_more k)) ≤ℤ (m *ℤ one_more d)) → n ≤ℤ pos 0
unfolding one_more
archimedean_ℤ (pos zero) m d e h = ℤO.≤-refl (pos 0)
archimedean_ℤ (pos (suc n)) m d e h =
    absurd (let g = le_of (is_mul (is_nat (suc n)) (is_mul (is_nat (suc e)) (is_nat _)))
    (is_mul (is m) (is_nat (suc d))) (h (plus m * suc d)) in omega arith)
archimedean_ℤ (negsuc n) m d e h = le_z_yes tt

archimedean_class : (p q : Frac) → ((n : ℕ) → 1 ≤ n → class p ≤ℚ class q *ℚ reciprocal n) → class p ≤ℚ whole (pos 0)
unfolding whole over_1 product
archimedean_class p q h = class_≤ p (over_1 (pos 0)) (simp (one_more_zero, ℤR.*-one, zero-*ℤ)
    (archimedean_ℤ p.numerator q.numerator p.denominator_1 q.denominator_1 cross))
  where
    part : ℕ → Frac
    part k = record { numerator = pos 1; denominator_1 = k }

    below : (k : ℕ) → class p ≤ℚ class (product q (part k))
    below k = simp (reciprocal_class, product_class) at (h (suc k) (omega arith))

    cross : (k : ℕ) → (p.numerator *ℤ (denominator q *ℤ one_more k)) ≤ℤ (q.numerator *ℤ denominator p)
    cross k = simp (one_more_times, ℤR.*-one) at (≤-class p (product q (part k)) (below k))

pub archimedean : (x c : ℚ) → ((n : ℕ) → 1 ≤ n → x ≤ℚ c *ℚ reciprocal n) → x ≤ℚ whole (pos 0)
archimedean = ℚ_ind₂ (λ x c. Π_prop (λ h. ≤ℚ_prop)) archimedean_class

-- ℚ as an Archimedean ordered field
abbrev pub ℚF : Field
ℚF = record {
  ordered = ℚO;
  reciprocal = reciprocal;
  nat_reciprocal = λ n l. ap (λ x. x *ℚ reciprocal n) (nat_whole n) ∙ whole_reciprocal n l;
  archimedean = archimedean;
}
