-- The digits of a key by shifts: the exponent of variable i stands before 4 × (width - i) bits.
use Rattle.std.specs.Prelude.{◌≡◌, refl}
use Rattle.std.proofs.Math.Path.{sym, ap, ap₂, subst}
use Rattle.std.proofs.Common.{◌∙◌, lit<, lt-ltb, pow-add, pow_pos}
use Prim.Native.Nat.{ℕ, zero, suc, ◌+◌, ◌-◌, ◌*◌, ◌/◌, ◌%◌, ◌^◌, ◌≤◌, ◌<◌}
use native.Mathlib.Omega.{arith}
use Rattle.std.proofs.Math.Nat as NatL
use Rattle.std.specs.Int.Bits.{bit_and}
use Rattle.std.proofs.lemmas.Nat.{and_mask}
use Rattle.std.proofs.Math.Dec.{eqb}
use Rattle.std.proofs.Math.Pow.{pow-lt, field, mod-mod-pow}
use Rattle.polynomial.specs.Polynomial.{exponent}
use Rattle.calculus.specs.Monomial.{index_of}
use Rattle.calculus_laws.specs.MonomialLaws.{index_suc}
use Rattle.calculus.specs.Key.{decode, fits_digits, key_width, key_limit, key_fits}
use Rattle.model_keys.specs.Keys.{Slot, key_exponent, key_without, Raisable, key_raised}

-- digits as bits
pub digit_bits : (w : ℕ) → 16 ^ w ≡ 2 ^ (4 * w)
digit_bits zero = refl
digit_bits (suc w) = NatL.pow-suc 16 w ∙ ap (λ x. x * 16) (digit_bits w) ∙ sym (pow-add 2 (4 * w) 4)
    ∙ ap (λ i. 2 ^ i) (omega arith)

-- a digit: what stands before the bits after it, without what stands before the digit
digit_shifted : (w j z : ℕ) → j < w → z < 16 ^ w → exponent j (decode 16 w w z) ≡ z / 2 ^ (4 * (w - suc j)) % 16
unfolding exponent decode
digit_shifted zero j z h b = absurd (omega arith)
digit_shifted (suc w) zero z h b =
    let k : 4 * w ≡ 4 * (suc w - 1) = omega arith in
    let q : z / 16 ^ w < 16 = (NatL.div-lt_iff_lt-mul (NatL.one-le-pow w 16 (lit< tt))).1
    (subst (λ x. z < x) (NatL.pow-suc 16 w ∙ NatL.mul_comm (16 ^ w) 16) b) in
    sym (NatL.mod-eq_of_lt q) ∙ ap (λ x. z / x % 16) (digit_bits w ∙ ap (λ i. 2 ^ i) k)
digit_shifted (suc w) (suc j) z h b =
    let k = 4 * (w - suc j) in
    let long : 4 * w ≡ (4 * j + 4) + k = omega arith in
    let same : k ≡ 4 * (suc w - suc (suc j)) = omega arith in
    digit_shifted w j (z % 16 ^ w) (omega arith) (NatL.mod-lt z (NatL.one-le-pow w 16 (lit< tt)))
    ∙ ap (λ x. z % x / 2 ^ k % 16) (digit_bits w ∙ ap (λ i. 2 ^ i) long)
    ∙ ap (λ x. x % 16) (field z (4 * j + 4) k)
    ∙ mod-mod-pow (z / 2 ^ k) (4 * j) 4
    ∙ ap (λ i. z / 2 ^ i % 16) same

-- one of a digit's units within a word
unit_small : (bits : ℕ) → bits < 32 → 1 * 2 ^ bits % 4294967296 ≡ 2 ^ bits
unit_small bits h = ap (λ x. x % 4294967296) (NatL.one-mul (2 ^ bits)) ∙ NatL.mod-eq_of_lt (pow-lt h)

module _ (i : ℕ) (s : Slot i) (bits : ℕ) (e : bits ≡ 4 * (key_width - i)) where
  pub bits_small : bits < 32
  unfolding key_width
  bits_small = omega (arith, s.first, e)

  unit_is : 2 ^ bits ≡ 16 ^ (key_width - i)
  unit_is = ap (λ k. 2 ^ k) e ∙ sym (digit_bits (key_width - i))

  pub exponent_shifted : (z : ℕ) → z < key_limit → z / 2 ^ bits % 16 ≡ key_exponent i z
  unfolding key_exponent key_limit
  exponent_shifted z h =
      let k : key_width - suc (index_of i) ≡ key_width - i = omega (arith, index_suc i s.first) in
      ap (λ x. z / 2 ^ x % 16) (e ∙ ap (λ x. 4 * x) (sym k))
      ∙ sym (digit_shifted key_width (index_of i) z (omega (arith, index_suc i s.first, s.last)) h)

  -- what the exponent counts is no more than the key
  counted : (z : ℕ) → z / 2 ^ bits % 16 * 2 ^ bits ≤ z
  counted z = NatL.le_trans (NatL.mul-le-mul_right (2 ^ bits) (NatL.mod-le (z / 2 ^ bits) 16))
      (NatL.div-mul-le_self z (2 ^ bits))

  pub counted_word : (z : ℕ) → z < key_limit → z / 2 ^ bits % 16 * 2 ^ bits % 4294967296 ≡ z / 2 ^ bits % 16 * 2 ^ bits
  unfolding key_limit key_width
  counted_word z h = NatL.mod-eq_of_lt (let c = counted z in omega (arith, h, c))

  pub counted_le : (z : ℕ) → z < key_limit → z / 2 ^ bits % 16 * 2 ^ bits % 4294967296 ≤ z
  counted_le z h = subst (λ x. x ≤ z) (sym (counted_word z h)) (counted z)

  pub without_shifted : (z : ℕ) → z < key_limit → z - z / 2 ^ bits % 16 * 2 ^ bits % 4294967296 ≡ key_without i z
  unfolding key_without
  without_shifted z h = ap (λ x. z - x) (counted_word z h ∙ ap₂ ◌*◌ (exponent_shifted z h) unit_is)

  pub raised_shifted : (z : ℕ) → z + 1 * 2 ^ bits % 4294967296 ≡ key_raised i z
  unfolding key_raised
  raised_shifted z = ap (λ x. z + x) (unit_small bits bits_small ∙ unit_is)

  pub unit_pos : 1 ≤ 1 * 2 ^ bits % 4294967296
  unit_pos = subst (λ x. 1 ≤ x) (sym (unit_small bits bits_small)) (pow_pos bits)

  pub fits_shifted : (z : ℕ) → z < key_limit
      → eqb (bit_and z (1 * 2 ^ bits % 4294967296 - 1)) 0 ≡ key_fits key_width i z
  unfolding fits_digits key_limit
  fits_shifted z h = rw (lt-ltb z (16 ^ key_width) h)
      (ap (λ x. eqb (bit_and z (x - 1)) 0) (unit_small bits bits_small)
      ∙ ap (λ x. eqb x 0) (and_mask z bits ∙ ap (λ x. z % x) unit_is))

  -- with room for one more of the exponent the word has room
  pub raised_word : (z : ℕ) → z < key_limit → key_exponent i z + 1 < 16 → z + 1 * 2 ^ bits % 4294967296 < 4294967296
  unfolding key_limit key_width
  raised_word z h r = subst (λ x. z + x < 4294967296) (sym (unit_small bits bits_small)) (omega (
    arith,
    above,
    NatL.mul-le-mul_right (2 ^ bits) next,
    total,
  ))
    where
      q : ℕ
      q = z / 2 ^ bits

      p : ℕ
      p = 2 ^ (4 * (i - 1))

      total : p * 16 * 2 ^ bits ≡ 4294967296
      total = ap (λ x. x * 2 ^ bits) (sym (pow-add 2 (4 * (i - 1)) 4)) ∙ sym (pow-add 2 (4 * (i - 1) + 4) bits)
          ∙ ap (λ k. 2 ^ k) whole
        where
          whole : 4 * (i - 1) + 4 + bits ≡ 32
          whole = unfold key_width in omega (arith, e, s.first, s.last)

      inside : q < p * 16
      inside = (NatL.div-lt_iff_lt-mul (pow_pos bits)).1 (subst (λ x. z < x) (sym total) h)

      next : q + 2 ≤ p * 16
      next = let d : q % 16 + 1 < 16 = subst (λ x. x + 1 < 16) (sym (exponent_shifted z h)) r in
          omega (arith, d, inside)

      above : z + 2 ^ bits < (q + 2) * 2 ^ bits
      above = let l = NatL.lt-div-mul-add {a = z} (pow_pos bits) in omega (arith, l)
