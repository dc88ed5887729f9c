-- All that the layers above know of the unit, the span limit and the rounding.
use Rattle.std.specs.Prelude.{◌≡◌, refl, ℕ, suc, pred, ◌+◌, ◌*◌, ◌/◌, ◌^◌, ◌≤◌, ◌<◌, T, leb, ℤ, pos, neg_ℤ, nat_abs, ◌-ℤ◌, ◌*ℤ◌}
use Rattle.std.proofs.Common.{sym, ap, ◌∙◌, arith, le-leb, lit<, lit≤}
use Rattle.std.proofs.Math.Decide.{dec_le}
use Rattle.std.proofs.lemmas.Bool.{lt-leb}
use Rattle.algebra.specs.Integer.{is, is_eq, is_nat, natAbs_parts}
use Rattle.numbers.specs.Division.{is_even, nearest}
use Rattle.numbers.proofs.DivisionLaws.{divided_up_ok, divided_up_least}
use Rattle.numbers.proofs.NearestLaws.{nearest_le, nearest_even, nearest_neg, left_neg, left_le_abs}
use Rattle.numbers.proofs.NearestLaws.{nearest_le_abs}
use Rattle.numbers.specs.Fixed.{U, span_limit, round, residual, round_up, capped}

-- ---- the unit and the span limit
pub U_pos : 0 < U
unfolding U
U_pos = lit< tt

pub U_suc : U ≡ suc (pred U)
U_suc = let h : 0 < U = U_pos in omega arith

pub U_even : U ≡ 2 * (U / 2)
unfolding U
U_even = refl

-- the unit itself is within the span limit
pub U_within : U ≤ span_limit
unfolding U span_limit
U_within = lit≤ tt

-- numbers within the limit fit a signed word with room for a factor of 2^32, so their sums and doubles fit,
pub span_fits : 2 ^ 32 * span_limit < 2 ^ 63
unfolding span_limit
span_fits = lit< tt

-- and so do their products
pub span_square_fits : 4 * (span_limit * span_limit) < 2 ^ 63
unfolding span_limit
span_square_fits = lit< tt

-- a number of that size and its sign fit four bytes
pub span_four_bytes : span_limit < 2 ^ 31
unfolding span_limit
span_four_bytes = lit< tt

-- ---- rounding up
-- the radius covers E,
pub round_up_ok : (E : ℕ) → E ≤ U * round_up E
unfolding round_up
round_up_ok E = divided_up_ok E U U_pos

-- and less than a unit more
pub round_up_least : (E : ℕ) → U * round_up E < E + U
unfolding round_up
round_up_least E = divided_up_least E U U_pos

-- ---- rounding: laws of `nearest` at U
-- rounding is to the nearest, and halfway to the even
pub residual_le : (z : ℤ) → 2 * residual z ≤ U
unfolding round residual
residual_le z = nearest_le z U U_pos

pub round_even : (z : ℤ) → 2 * residual z ≡ U → T (is_even (round z))
unfolding round residual
round_even z h = nearest_even z U U_pos h

-- the sign turns with the argument, and as much is left
pub round_neg : (z : ℤ) → round (neg_ℤ z) ≡ neg_ℤ (round z)
unfolding round
round_neg z = nearest_neg z U U_pos

pub residual_neg : (z : ℤ) → residual (neg_ℤ z) ≡ residual z
unfolding round residual
residual_neg z = ap (λ c. nat_abs (neg_ℤ z -ℤ c *ℤ pos U)) (round_neg z) ∙ left_neg z (round z) U

-- no more is left than there was, and c is no larger
pub residual_le_abs : (z : ℤ) → residual z ≤ nat_abs z
unfolding round residual
residual_le_abs z = left_le_abs z U U_pos

pub round_le_abs : (z : ℤ) → nat_abs (round z) ≤ nat_abs z
unfolding round
round_le_abs z = nearest_le_abs z U U_pos

-- as code computes them
pub round_is : (z : ℤ) → round z ≡ nearest z U
unfolding round
round_is z = refl

pub residual_is : (z : ℤ) → residual z ≡ nat_abs (z -ℤ round z *ℤ pos U)
unfolding residual
residual_is z = refl

-- zero rounds to zero, and nothing is left
pub round_zero : round (pos 0) ≡ pos 0
round_zero = is_eq (is (round (pos 0))) (is_nat 0) (omega (arith, round_le_abs (pos 0), natAbs_parts (round (pos 0))))

pub residual_zero : residual (pos 0) ≡ 0
residual_zero = omega (arith, residual_le_abs (pos 0))

-- ---- the cap: the span test answers as without it, also after many sums
pub capped_same : (s : ℕ) → s ≤ span_limit → capped s ≡ s
unfolding capped
capped_same s h = omega arith

pub capped_sum : (s x : ℕ) → capped (capped s + x) ≡ capped (s + x)
unfolding capped
capped_sum s x = omega arith

-- a sum known as far as the cap, and one number more
pub capped_more : (s r x : ℕ) → capped s ≡ capped r → capped (capped (s + x)) ≡ capped (r + x)
unfolding capped
capped_more s r x e = omega arith

-- what is above the limit stays above it
pub capped_above : (s : ℕ) → span_limit < s → span_limit < capped s
unfolding capped
capped_above s h = omega arith

pub capped_within : (s : ℕ) → leb (capped s) span_limit ≡ leb s span_limit
unfolding capped
capped_within s = go (dec_le s span_limit)
  where
    go : Dec (s ≤ span_limit) → leb (capped s) span_limit ≡ leb s span_limit
    go (yes h) = le-leb (capped s) span_limit (omega arith) ∙ sym (le-leb s span_limit h)
    go (no h) = lt-leb (capped s) span_limit (omega arith) ∙ sym (lt-leb s span_limit (omega arith))
