-- The divisor of the digits, and what they give when they are divided.
use Rattle.std.specs.Prelude.{◌≡◌, refl, Bool, true, ℕ, zero, suc, ◌+◌, ◌-◌, ◌*◌, ◌%◌, ◌^◌, ◌≤◌, ◌<◌, min, Float, pos, nat_abs, ◌-ℤ◌, ◌*ℤ◌}
use Rattle.std.proofs.Common.{sym, ◌∙◌, ap, arith, lit<, pow-add, pow_pos, pow_mono}
use Rattle.std.proofs.Math.Decide.{dec_le}
use Rattle.std.proofs.Math.Nat as NatL
use Rattle.algebra.specs.IntegerRing.{ℤR}
use Rattle.algebra.specs.RingSolver.{𝟎, ◌⊟◌, ◌⊠◌, ring}
use Rattle.numbers.specs.Computing.{numbers}
use Rattle.numbers.specs.Division.{divided_up, nearest}
use Rattle.numbers.proofs.DivisionLaws.{divided_up_le, divided_up_unique}
use Rattle.numbers.proofs.NearestLaws.{nearest_unique}
use Rattle.numbers.specs.Fixed.{U}
use Rattle.calculus.specs.Operations.{one_if_any}
use Rattle.doubles.specs.Doubles.{signed, coefficient, inexact, radius_up}
use Rattle.doubles.specs.DoubleBits.{smallest_in_one}
use Rattle.doubles.specs.ExactFractionLaws.{none_left, some_left, signed_size, coefficient_is, inexact_is, radius_is}
use Rattle.model_doubles.specs.declared.Parts.{Parts}
use Rattle.model_doubles.specs.DoubleParts.{Worth, point, divisor, scaled}

-- ---- the divisor
pub divisor_largest : (e : ℕ) → 55 ≤ point - e → 36028797018963968 ≡ divisor e
unfolding divisor
divisor_largest e h = let k : 55 ≡ min (point - e) 55 = omega arith in ap (λ k. 2 ^ k) k

pub divisor_shift : (e : ℕ) → point - e < 55 → 2 ^ (point - e) ≡ divisor e
unfolding divisor
divisor_shift e h = let k : point - e ≡ min (point - e) 55 = omega arith in ap (λ k. 2 ^ k) k

pub divisor_pos : (e : ℕ) → 0 < divisor e
unfolding divisor
divisor_pos e = pow_pos (min (point - e) 55)

-- a power up to 2^55 loses nothing at 64 bits
pub shifted : (k : ℕ) → k ≤ 55 → 1 * 2 ^ k % 18446744073709551616 ≡ 2 ^ k
shifted k h =
    let p : 2 ^ k ≤ 36028797018963968 = pow_mono h in
    ap (λ i. i % 18446744073709551616) (NatL.one-mul (2 ^ k)) ∙ NatL.mod-eq_of_lt (NatL.lt_of_le_of_lt p (lit< tt))

-- ---- whether anything is left
pub at_most_one : (r : ℕ) → one_if_any r ≤ 1
at_most_one zero = omega (arith, none_left 0 refl)
at_most_one (suc r) = omega (arith, some_left (suc r) (λ e. omega arith))

-- ---- divisors that are more than twice as large leave all of it
module _ (n d : ℕ) (h : 2 * n < d) where
  smaller : n < d
  smaller = omega arith

  above_zero : 0 < d
  above_zero = omega arith

  none_nearest : (s : Bool) → nearest (signed s n) d ≡ pos 0
  none_nearest s = nearest_unique (signed s n) (pos 0) d above_zero (record {
    half = omega (arith, left);
    tie = λ e. absurd (omega (arith, left));
  })
    where
      left : nat_abs (signed s n -ℤ pos 0 *ℤ pos d) ≡ n
      left = ap nat_abs (ring 2 ℤR (λ z d. z ⊟ 𝟎 ⊠ d) (λ z d. z) refl (signed s n) (pos d)) ∙ signed_size s n

  all_left : n % d ≡ n
  all_left = NatL.mod-eq_of_lt smaller

  one_up : divided_up n d ≡ one_if_any n
  one_up = go n refl
    where
      go : (m : ℕ) → m ≡ n → divided_up n d ≡ one_if_any m
      go zero e = divided_up_unique n d above_zero 0 (omega arith) (omega arith) ∙ none_left 0 refl
      go (suc m) e = divided_up_unique n d above_zero 1 (omega arith) (omega arith)
          ∙ some_left (suc m) (λ z. omega arith)

-- so the largest divisor serves for them
module _ (n e : ℕ) (few : n < 9007199254740992) where
  large : 55 ≤ point - e → 2 * n < 2 ^ (point - e)
  large h = let p : 36028797018963968 ≤ 2 ^ (point - e) = pow_mono h in omega arith

  large_55 : 2 * n < 36028797018963968
  large_55 = omega arith

  -- a function of the divisor that is the same for all large ones
  same : {A : Type 0} (f : ℕ → A) (x : A) → ((d : ℕ) → 2 * n < d → f d ≡ x) → f (2 ^ (point - e)) ≡ f (divisor e)
  same f x h = go (dec_le 55 (point - e))
    where
      go : Dec (55 ≤ point - e) → f (2 ^ (point - e)) ≡ f (divisor e)
      go (yes l) = h _ (large l) ∙ sym (h _ large_55) ∙ ap f (divisor_largest e l)
      go (no l) = ap f (divisor_shift e (omega arith))

-- ---- what the parts of a double give
pub U_point : U * 2 ^ point ≡ smallest_in_one
unfolding numbers
U_point = refl

module _ (x : Float) (p : Parts) (w : Worth x p) (f : p.finite ≡ true) (l : p.places ≤ point) where
  exact_fraction : p.digits * 2 ^ p.places * U * 2 ^ (point - p.places) ≡ p.digits * smallest_in_one
  exact_fraction =
      let k : p.places + (point - p.places) ≡ point = omega arith in
      NatL.mul_assoc (p.digits * 2 ^ p.places) U _
      ∙ NatL.mul_assoc p.digits (2 ^ p.places) _
      ∙ ap (λ i. p.digits * i) (NatL.mul_left_comm (2 ^ p.places) U _
      ∙ ap (λ i. U * i) (sym (pow-add 2 p.places _) ∙ ap (λ i. 2 ^ i) k) ∙ U_point)

  pub coefficient_from : (scaled p).coefficient ≡ coefficient x
  coefficient_from = sym
      (coefficient_is _ smallest_in_one p.digits (2 ^ (point - p.places)) (pow_pos 1074)
      (pow_pos (point - p.places)) exact_fraction x p.negative (w.value f)
      ∙ same p.digits p.places w.few (nearest (signed p.negative p.digits)) (pos 0)
      (λ d h. none_nearest p.digits d h p.negative))

  pub inexact_from : (scaled p).inexact ≡ inexact x
  inexact_from = sym
      (inexact_is _ smallest_in_one p.digits (2 ^ (point - p.places)) (pow_pos 1074) (pow_pos (point - p.places))
      exact_fraction x p.negative (w.value f)
      ∙ same p.digits p.places w.few (λ d. one_if_any (p.digits % d)) (one_if_any p.digits)
      (λ d h. ap one_if_any (all_left p.digits d h)))

  pub radius_from : divided_up p.digits (divisor p.places) ≡ radius_up x
  radius_from = sym
      (radius_is _ smallest_in_one p.digits (2 ^ (point - p.places)) (pow_pos 1074) (pow_pos (point - p.places))
      exact_fraction x p.negative (w.value f)
      ∙ same p.digits p.places w.few (λ d. divided_up p.digits d) (one_if_any p.digits)
      (λ d h. one_up p.digits d h))

-- ---- the sizes of what is added
pub raised_few : (n e : ℕ) → n < 9007199254740992 → divided_up n (divisor e) < 9007199254740992
raised_few n e h = omega (arith, divided_up_le n (divisor e) (divisor_pos e))
