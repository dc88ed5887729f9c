-- Equal fractions are rounded alike: to the nearest, up, and with remainders in the same proportion.
use Rattle.std.specs.Prelude.{◌≡◌, refl, ℕ, ◌+◌, ◌*◌, ◌/◌, ◌%◌, ◌≤◌, ◌<◌, ℤ, pos, nat_abs, ◌-ℤ◌, ◌*ℤ◌}
use Rattle.std.proofs.Common.{sym, ◌∙◌, ap, arith}
use Rattle.std.proofs.Math.Nat as NatL
use Rattle.std.specs.Float.Ieee.Nearest.{div_same}
use Rattle.algebra.specs.Integer.{nat_abs_mul}
use Rattle.algebra.specs.IntegerRing.{ℤR}
use Rattle.algebra.specs.RingSolver.{◌⊟◌, ◌⊠◌, ring}
use Rattle.numbers.specs.Division.{divided_up, nearest}
use Rattle.numbers.proofs.DivisionLaws.{divided_up_ok, divided_up_least, divided_up_unique}
use Rattle.numbers.proofs.NearestLaws.{Nearest, nearest_is, nearest_unique}

-- ---- integers: z / d is y / b
module _ (z y : ℤ) (d b : ℕ) (hd : 0 < d) (hb : 0 < b) (e : z *ℤ pos b ≡ y *ℤ pos d) where
  left_same : (c : ℤ) → nat_abs (z -ℤ c *ℤ pos d) * b ≡ nat_abs (y -ℤ c *ℤ pos b) * d
  left_same c = sym (nat_abs_mul (z -ℤ c *ℤ pos d) (pos b))
      ∙ ap nat_abs (ring 4 ℤR (λ z c d b. (z ⊟ c ⊠ d) ⊠ b) (λ z c d b. z ⊠ b ⊟ c ⊠ d ⊠ b) refl z c (pos d) (pos b)
      ∙ ap (λ v. v -ℤ c *ℤ pos d *ℤ pos b) e
      ∙ ring 4 ℤR (λ y c d b. y ⊠ d ⊟ c ⊠ d ⊠ b) (λ y c d b. (y ⊟ c ⊠ b) ⊠ d) refl y c (pos d) (pos b))
      ∙ nat_abs_mul (y -ℤ c *ℤ pos b) (pos d)

  pub nearest_same : nearest z d ≡ nearest y b
  nearest_same = nearest_unique z c d hd (record {
    half = NatL.le_of_mul-le-mul_right half_b hb;
    tie = λ t. n.tie (NatL.eq_of_mul-eq-mul_right d hd _ _ (tie_d t));
  })
    where
      c : ℤ
      c = nearest y b

      n : Nearest y b c
      n = nearest_is y b hb

      half_b : 2 * nat_abs (z -ℤ c *ℤ pos d) * b ≤ d * b
      half_b = omega (arith, left_same c, NatL.mul-le-mul_right d n.half)

      tie_d : 2 * nat_abs (z -ℤ c *ℤ pos d) ≡ d → 2 * nat_abs (y -ℤ c *ℤ pos b) * d ≡ b * d
      tie_d t = omega (arith, left_same c, ap (λ i. i * b) t)

-- ---- natural numbers: a / b is c / d
module _ (a b c d : ℕ) (hb : 0 < b) (hd : 0 < d) (e : a * d ≡ c * b) where
  pub rest_same : a % b * d ≡ c % d * b
  rest_same = omega (
    arith,
    e,
    ap (λ i. i * d) (NatL.div-add-mod a b),
    ap (λ i. i * b) (NatL.div-add-mod c d),
    ap (λ q. b * q * d) (div_same a b c d hb hd e),
    NatL.mul_right_comm b (c / d) d,
    NatL.mul_right_comm d (c / d) b,
  )

  pub up_same : divided_up a b ≡ divided_up c d
  up_same = divided_up_unique a b hb q (NatL.le_of_mul-le-mul_right enough hd) (NatL.lt_of_mul-lt-mul_right d least)
    where
      q : ℕ
      q = divided_up c d

      moved : d * q * b ≡ b * q * d
      moved = NatL.mul_right_comm d q b ∙ ap (λ i. i * q) (NatL.mul_comm d b) ∙ NatL.mul_right_comm b d q

      enough : a * d ≤ b * q * d
      enough = omega (arith, e, NatL.mul-le-mul_right b (divided_up_ok c d hd), moved)

      least : b * q * d < (a + b) * d
      least = omega (arith, e, NatL.mul-lt-mul_of_pos_right (divided_up_least c d hd) hb, moved, NatL.mul_comm b d)
