-- Fractions as they are written, a whole number over a whole number from 1: when two are equal, how two are compared,
-- and their operations.
use Rattle.std.specs.Prelude.{◌≡◌, Bool, ℕ, zero, suc, ◌+◌, ◌*◌, ℤ, pos, negsuc, neg_ℤ, ◌+ℤ◌, ◌*ℤ◌}
use Rattle.std.specs.Int.Signed.{le_z}

-- a whole number over a whole number from 1, which is kept as the number before it
pub record Frac : Type 0 where
  pub numerator : ℤ
  pub denominator_1 : ℕ

-- n + 1 as an integer, under a name of its own so that products of denominators stay products
unfoldable pub one_more : ℕ → ℤ
one_more n = pos (suc n)

-- the denominator
abbrev pub denominator : Frac → ℤ
denominator p = one_more p.denominator_1

-- two are equal if their cross products are
unfoldable pub Same : Frac → Frac → Type 0
Same p q = p.numerator *ℤ denominator q ≡ q.numerator *ℤ denominator p

-- one is at most the other if its cross product is
unfoldable pub at_most : Frac → Frac → Bool
at_most p q = le_z (p.numerator *ℤ denominator q) (q.numerator *ℤ denominator p)

-- a whole number over 1
unfoldable pub over_1 : ℤ → Frac
over_1 z = record { numerator = z; denominator_1 = 0 }

-- (m + 1) (n + 1) - 1
unfoldable pub times_1 : ℕ → ℕ → ℕ
times_1 m n = m * n + (m + n)

-- the sum: cross products over the product of the denominators
unfoldable pub sum : Frac → Frac → Frac
sum p q = record {
  numerator = p.numerator *ℤ denominator q +ℤ q.numerator *ℤ denominator p;
  denominator_1 = times_1 p.denominator_1 q.denominator_1;
}

-- the product
unfoldable pub product : Frac → Frac → Frac
product p q = record {
  numerator = p.numerator *ℤ q.numerator;
  denominator_1 = times_1 p.denominator_1 q.denominator_1;
}

-- the negation
unfoldable pub negation : Frac → Frac
negation p = record { numerator = neg_ℤ p.numerator; denominator_1 = p.denominator_1 }

-- an integer over an integer, with the sign above; 0 if the lower one is 0
unfoldable pub over : ℤ → ℤ → Frac
over z (pos zero) = over_1 (pos 0)
over z (pos (suc n)) = record { numerator = z; denominator_1 = n }
over z (negsuc n) = record { numerator = neg_ℤ z; denominator_1 = n }

-- the inverse: the denominator over the numerator
unfoldable pub inversion : Frac → Frac
inversion p = over (denominator p) p.numerator
