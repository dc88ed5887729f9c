-- Functions of the point, and what lies between two ends: cases that a definition near to the right one does not meet.
use Rattle.std.specs.Prelude.{◌≡◌, refl, [], ◌∷◌, pos}
use Rattle.std.proofs.Common.{sym, subst}
use Rattle.std.specs.Int.Signed.{le_z_yes}
use Rattle.numbers.specs.algebra.RingLaws.{*-zero}
use Rattle.numbers.proofs.algebra.Rational.{ℚ, ◌*ℚ◌, whole, ◌≤ℚ◌, reciprocal}
use Rattle.numbers.proofs.algebra.RationalRing.{ℚR}
use Rattle.numbers.proofs.algebra.RationalLaws.{whole_≤}
use Rattle.polynomial.specs.Polynomial.{exponent, raise}
use Rattle.polynomial.specs.Antiderivative.{antiderivative_in}
use Rattle.numbers.specs.Fixed.{U}
use Rattle.calculus.specs.Monomial.{index_of}
use Rattle.calculus.specs.Forms.{ends, minus, forms}
use Rattle.calculus.specs.Functions.{0ℚ, antiderivative_of, Lies}

-- 0 lies between -1 and 1
pub zero_lies : Lies 0ℚ (ends (minus 1) (pos 1))
unfolding forms
zero_lies = record {
  from = subst (λ z. whole (minus 1) ≤ℚ z) (sym (*-zero ℚR (whole (pos U)))) (whole_≤ (le_z_yes tt));
  to = subst (λ z. z ≤ℚ whole (pos 1)) (sym (*-zero ℚR (whole (pos U)))) (whole_≤ (le_z_yes tt));
}

-- c x^2 y gives c/3 x^3 y in variable 1 and c/2 x^2 y^2 in variable 2, and no constant
pub antiderivatives_stand : (c : ℚ)
    → (antiderivative_of 1 (record { coefficient = c; exponents = 2 ∷ 1 ∷ [] } ∷ [])
    ∷ antiderivative_of 2 (record { coefficient = c; exponents = 2 ∷ 1 ∷ [] } ∷ []) ∷ [])
    ≡ (record { coefficient = c *ℚ reciprocal 3; exponents = 3 ∷ 1 ∷ [] } ∷ [])
    ∷ (record { coefficient = c *ℚ reciprocal 2; exponents = 2 ∷ 2 ∷ [] } ∷ []) ∷ []
unfolding antiderivative_of antiderivative_in index_of exponent raise
antiderivatives_stand c = refl
