-- How large the shares of an integral are, and their sum.
use Rattle.std.specs.Prelude.{Bool, true, false, List, [], ◌∷◌, ℕ, ◌+◌, ◌*◌, ◌^◌, ◌≤◌, ◌<◌, ℤ, pos, nat_abs, ◌*ℤ◌}
use Rattle.std.proofs.Common.{arith, lit<}
use Rattle.std.proofs.Math.Nat as NatL
use Rattle.algebra.specs.Integer.{nat_abs_mul}
use Rattle.polynomial.specs.Integral.{all_even, divisor}
use Rattle.numbers.proofs.DivisionLaws.{floor_le_abs, ceiling_le_abs}
use Rattle.numbers.specs.Fixed.{span_limit}
use Rattle.numbers.proofs.FixedLaws.{span_fits}
use Rattle.calculus.specs.Key.{key_width}
use Rattle.calculus.specs.Terms.{Terms, select, sum_over, sum_ℕ, size}
use Rattle.calculus.specs.Model.{Model, span}
use Rattle.calculus.specs.Operations.{integral_sum}
use Rattle.model_types.specs.ModelStructLaws.{sum_abs, sum_select_le}
use Rattle.model_integral.specs.Rounding.{rule}

pub rule_abs : (up : Bool) (z : ℤ) (d : ℕ) → nat_abs (rule up z d) ≤ nat_abs z
unfolding rule
rule_abs true z d = ceiling_le_abs z d
rule_abs false z d = floor_le_abs z d

-- the terms' shares of an integral, of which each is one of these
abbrev pub share : (up : Bool) (n : ℕ) → List ℕ → ℤ → ℤ
share up n k c = rule up (c *ℤ pos (2 ^ n)) (divisor n k)

pub shares_within : (up : Bool) (n : ℕ) (p : Terms) → sum_ℕ (λ k c. nat_abs (share up n k c)) p ≤ size p * 2 ^ n
unfolding sum_over size
shares_within up n [] = omega arith
shares_within up n (t ∷ p) = omega (
  arith,
  rule_abs up (t.coefficient *ℤ pos (2 ^ n)) (divisor n t.exponents),
  nat_abs_mul t.coefficient (pos (2 ^ n)),
  shares_within up n p,
)

pub integral_within : (up : Bool) (m : Model) → nat_abs (integral_sum (rule up) m) + 2 ^ m.vars * m.radius
    ≤ span m * 2 ^ m.vars
unfolding integral_sum span
integral_within up m = omega (
  arith,
  sum_abs (λ k c. nat_abs (share up m.vars k c)) (share up m.vars) (λ k c. omega arith)
      (select (λ k c. all_even m.vars k) m.terms),
  sum_select_le (λ k c. nat_abs (share up m.vars k c)) (λ k c. all_even m.vars k) m.terms,
  shares_within up m.vars m.terms,
)

-- and that fits a signed word
pub volume_le : (n : ℕ) → n ≤ key_width → 2 ^ n ≤ 256
unfolding key_width
volume_le n l = NatL.pow-le-pow_right {n = 2} (lit< tt) {i = n} {j = 8} l

pub scaled_fits : (n a : ℕ) → n ≤ key_width → a ≤ span_limit → a * 2 ^ n < 2 ^ 63
scaled_fits n a l h = omega (arith, span_fits, NatL.mul-le-mul h (volume_le n l))
