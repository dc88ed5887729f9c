-- The digits of a key moved apart, many at once: by masks that take the higher or the lower of two neighbours in all
-- parts of a word.
use Rattle.std.specs.Prelude.{◌≡◌, ℕ, ◌+◌, ◌*◌, ◌/◌, ◌%◌, ◌^◌, ◌≤◌, ◌<◌}
use Rattle.std.proofs.Common.{sym, ◌∙◌, lit<}
use Rattle.std.proofs.Math.Path.{ap, ap₂, subst}
use native.Mathlib.Omega.{arith}
use Rattle.std.proofs.Math.Nat as NatL
use Rattle.std.specs.Int.Bits.{bit_and}
use Rattle.std.proofs.lemmas.Nat.{and_le_r, and_block, and_mask}
use Rattle.std.proofs.lemmas.Nat.Bits.{and_high}
use Rattle.calculus.specs.Key.{encode, decode, Below}
use Rattle.model_keys.specs.Keys.{wide_exponents, narrowed}
use Rattle.model_keys.specs.KeyHalvesLaws.{half_wide, four_digits, half_narrow, four_wide}
use Rattle.model_keys.specs.KeyHalvesLaws.{half_narrow_lt, narrow_halves, narrow_high, narrow_low}

-- ---- masked words are no larger than their masks
pub masked_product : (x m g : ℕ) → m * g < 2 ^ 64 → bit_and x m * g < 2 ^ 64
masked_product x m g h = let l : bit_and x m * g ≤ m * g = NatL.mul-le-mul_right g (and_le_r x m) in omega arith

pub masked_sum : (x y m n g : ℕ) → m * g + n < 2 ^ 64 → bit_and x m * g + bit_and y n < 2 ^ 64
masked_sum x y m n g h =
    let l : bit_and x m * g ≤ m * g = NatL.mul-le-mul_right g (and_le_r x m) in omega (arith, and_le_r y n)

pub masked_quotients : (x y m n g : ℕ) → m + n < 2 ^ 64 → bit_and x m / g + bit_and y n < 2 ^ 64
masked_quotients x y m n g h = omega (arith, and_le_r x m, and_le_r y n, NatL.div-le_self (bit_and x m) g)

-- ---- one part: the lower and the higher of its two halves, of eight and of four bits
lower_byte : (v : ℕ) → bit_and v 255 ≡ v % 256
lower_byte v = and_mask v 8

higher_byte : (v : ℕ) → v < 65536 → bit_and v 65280 ≡ v / 256 * 256
higher_byte v h = and_high v 8 8 ∙ ap (λ x. x * 256) (NatL.mod-eq_of_lt (omega arith))

lower_digit : (v : ℕ) → bit_and v 15 ≡ v % 16
lower_digit v = and_mask v 4

higher_digit : (v : ℕ) → v < 256 → bit_and v 240 ≡ v / 16 * 16
higher_digit v h = and_high v 4 4 ∙ ap (λ x. x * 16) (NatL.mod-eq_of_lt (omega arith))

-- ---- two parts of 28 bits
two_parts : (m a r : ℕ) → m < 2 ^ 28 → r < 2 ^ 28
    → bit_and (a * 2 ^ 28 + r) (m * 2 ^ 28 + m) ≡ bit_and a m * 2 ^ 28 + bit_and r m
two_parts m a r h l = and_block 28 a m r m l h

-- ---- four parts of 14 bits
four_parts : (m p q s t : ℕ) → m < 2 ^ 14 → q < 2 ^ 14 → s < 2 ^ 14 → t < 2 ^ 14
    → bit_and (((p * 2 ^ 14 + q) * 2 ^ 14 + s) * 2 ^ 14 + t) (((m * 2 ^ 14 + m) * 2 ^ 14 + m) * 2 ^ 14 + m)
    ≡ ((bit_and p m * 2 ^ 14 + bit_and q m) * 2 ^ 14 + bit_and s m) * 2 ^ 14 + bit_and t m
four_parts m p q s t h hq hs ht =
    and_block 14 ((p * 2 ^ 14 + q) * 2 ^ 14 + s) ((m * 2 ^ 14 + m) * 2 ^ 14 + m) t m ht h
    ∙ ap (λ x. x * 2 ^ 14 + bit_and t m) (and_block 14 (p * 2 ^ 14 + q) (m * 2 ^ 14 + m) s m hs h
    ∙ ap (λ x. x * 2 ^ 14 + bit_and s m) (and_block 14 p m q m hq h))

-- the same four parts by equal ones
alike : {p q s t p' q' s' t' : ℕ} → p ≡ p' → q ≡ q' → s ≡ s' → t ≡ t'
    → ((p * 2 ^ 14 + q) * 2 ^ 14 + s) * 2 ^ 14 + t ≡ ((p' * 2 ^ 14 + q') * 2 ^ 14 + s') * 2 ^ 14 + t'
alike a b c d =
    ap₂ (λ x y. x * 2 ^ 14 + y) (ap₂ (λ x y. x * 2 ^ 14 + y) (ap₂ (λ x y. x * 2 ^ 14 + y) a b) c) d

-- the four digits of one half, by its bytes
digit_1 : (z : ℕ) → z / 256 / 16 ≡ z / 4096
digit_1 z = omega arith

digit_2 : (z : ℕ) → z / 256 % 16 ≡ z % 4096 / 256
digit_2 z = omega arith

lower_half : (z : ℕ) → z % 4096 % 256 ≡ z % 256
lower_half z = omega arith

-- each with seven bits
half_is : (z : ℕ) → (z / 256 / 16 * 2 ^ 7 + z / 256 % 16) * 2 ^ 14 + (z % 256 / 16 * 2 ^ 7 + z % 256 % 16) ≡ half_wide z
unfolding half_wide four_digits encode decode
half_is z = rw (digit_1 z, digit_2 z, lower_half z)
    (sums (z / 4096) (z % 4096 / 256) (z % 256 / 16) (z % 256 % 16))
  where
    sums : (a b c d : ℕ) → (a * 2 ^ 7 + b) * 2 ^ 14 + (c * 2 ^ 7 + d)
        ≡ a * 2097152 + (b * 16384 + (c * 128 + (d / 1 * 1 + 0)))
    sums a b c d = omega arith

-- ---- a word of two halves
module _ (a r : ℕ) (ha : a < 65536) (hr : r < 65536) where
  abbrev halves : ℕ
  halves = a * 268435456 + r

  -- its bytes moved apart
  abbrev bytes : ℕ
  bytes = bit_and halves 0xFF00000FF00 * 64 + bit_and halves 0xFF00000FF

  bytes_are : bytes ≡ ((a / 256 * 2 ^ 14 + a % 256) * 2 ^ 14 + r / 256) * 2 ^ 14 + r % 256
  bytes_are =
      let x = two_parts 65280 a r (lit< tt) (omega arith)
      ∙ ap₂ (λ y z. y * 2 ^ 28 + z) (higher_byte a ha) (higher_byte r hr) in
      let y = two_parts 255 a r (lit< tt) (omega arith)
      ∙ ap₂ (λ y z. y * 2 ^ 28 + z) (lower_byte a) (lower_byte r) in
      ap₂ (λ y z. y * 64 + z) x y ∙ sums (a / 256) (a % 256) (r / 256) (r % 256)
    where
      sums : (p q s t : ℕ) → (p * 256 * 2 ^ 28 + s * 256) * 64 + (q * 2 ^ 28 + t)
          ≡ ((p * 2 ^ 14 + q) * 2 ^ 14 + s) * 2 ^ 14 + t
      sums p q s t = omega arith

  -- and their digits: each half has its four with seven bits
  pub spread_halves : bit_and bytes 0x3C00F003C00F0 * 8 + bit_and bytes 0x3C00F003C00F
      ≡ half_wide a * 268435456 + half_wide r
  spread_halves =
      let p = a / 256 in
      let q = a % 256 in
      let s = r / 256 in
      let t = r % 256 in
      let x = four_parts 240 p q s t (lit< tt) (omega arith) (omega arith) (omega arith)
      ∙ alike (higher_digit p (omega arith)) (higher_digit q (omega arith)) (higher_digit s (omega arith))
      (higher_digit t (omega arith)) in
      let y = four_parts 15 p q s t (lit< tt) (omega arith) (omega arith) (omega arith)
      ∙ alike (lower_digit p) (lower_digit q) (lower_digit s) (lower_digit t) in
      ap (λ z. bit_and z 0x3C00F003C00F0 * 8 + bit_and z 0x3C00F003C00F) bytes_are
      ∙ ap₂ (λ y z. y * 8 + z) x y
      ∙ sums (p / 16) (p % 16) (q / 16) (q % 16) (s / 16) (s % 16) (t / 16) (t % 16)
      ∙ ap₂ (λ y z. y * 2 ^ 28 + z) (half_is a) (half_is r)
    where
      sums : (a b c d e f g h : ℕ)
          → (((a * 16 * 2 ^ 14 + c * 16) * 2 ^ 14 + e * 16) * 2 ^ 14 + g * 16) * 8
          + (((b * 2 ^ 14 + d) * 2 ^ 14 + f) * 2 ^ 14 + h)
          ≡ ((a * 2 ^ 7 + b) * 2 ^ 14 + (c * 2 ^ 7 + d)) * 2 ^ 28 + ((e * 2 ^ 7 + f) * 2 ^ 14 + (g * 2 ^ 7 + h))
      sums a b c d e f g h = omega arith

-- ---- and back: one part of 14 bits with two digits of seven, which fit four, and one of 28 with two bytes
near_digit : (e f : ℕ) → f < 16 → bit_and (e * 128 + f) 15 ≡ f
near_digit e f h = and_mask (e * 128 + f) 4 ∙ omega arith

far_digit : (e f : ℕ) → e < 16 → f < 16 → bit_and (e * 128 + f) 1920 ≡ e * 128
far_digit e f h l = and_high (e * 128 + f) 4 7 ∙ ap (λ x. x * 128) (omega arith)

near_byte : (p q : ℕ) → q < 256 → bit_and (p * 2 ^ 14 + q) 255 ≡ q
near_byte p q h = and_mask (p * 2 ^ 14 + q) 8 ∙ omega arith

far_byte : (p q : ℕ) → p < 256 → q < 256 → bit_and (p * 2 ^ 14 + q) 4177920 ≡ p * 2 ^ 14
far_byte p q h l = and_high (p * 2 ^ 14 + q) 8 14 ∙ ap (λ x. x * 2 ^ 14) (omega arith)

-- eight digits, each with seven bits
module _ (a b c d e f g h : ℕ) (ha : a < 16) (hb : b < 16) (hc : c < 16) (hd : d < 16) (he : e < 16) (hf : f < 16)
    (hg : g < 16) (hh : h < 16) where
  abbrev wide_word : ℕ
  wide_word = (((a * 128 + b) * 2 ^ 14 + (c * 128 + d)) * 2 ^ 14 + (e * 128 + f)) * 2 ^ 14 + (g * 128 + h)

  -- with four in each byte of a part of 14 bits
  near_digits : bit_and wide_word 0x3C00F003C00F ≡ ((b * 2 ^ 14 + d) * 2 ^ 14 + f) * 2 ^ 14 + h
  near_digits = four_parts 15 (a * 128 + b) (c * 128 + d) (e * 128 + f) (g * 128 + h) (lit< tt)
      (omega arith) (omega arith) (omega arith)
      ∙ alike (near_digit a b hb) (near_digit c d hd) (near_digit e f hf) (near_digit g h hh)

  far_digits : bit_and wide_word 0x1E007801E00780
      ≡ ((a * 128 * 2 ^ 14 + c * 128) * 2 ^ 14 + e * 128) * 2 ^ 14 + g * 128
  far_digits = four_parts 1920 (a * 128 + b) (c * 128 + d) (e * 128 + f) (g * 128 + h) (lit< tt)
      (omega arith) (omega arith) (omega arith)
      ∙ alike (far_digit a b ha hb) (far_digit c d hc hd) (far_digit e f he hf) (far_digit g h hg hh)

  abbrev byte_word : ℕ
  byte_word = ((a * 16 + b) * 2 ^ 14 + (c * 16 + d)) * 2 ^ 28 + ((e * 16 + f) * 2 ^ 14 + (g * 16 + h))

  byte_sums : bit_and wide_word 0x1E007801E00780 / 8 + bit_and wide_word 0x3C00F003C00F ≡ byte_word
  byte_sums = ap₂ (λ x y. x / 8 + y) far_digits near_digits ∙ sums
    where
      eighth : (((a * 128 * 2 ^ 14 + c * 128) * 2 ^ 14 + e * 128) * 2 ^ 14 + g * 128) / 8
          ≡ ((a * 16 * 2 ^ 14 + c * 16) * 2 ^ 14 + e * 16) * 2 ^ 14 + g * 16
      eighth = omega arith

      sums : (((a * 128 * 2 ^ 14 + c * 128) * 2 ^ 14 + e * 128) * 2 ^ 14 + g * 128) / 8
          + (((b * 2 ^ 14 + d) * 2 ^ 14 + f) * 2 ^ 14 + h) ≡ byte_word
      sums = ap (λ x. x + (((b * 2 ^ 14 + d) * 2 ^ 14 + f) * 2 ^ 14 + h)) eighth ∙ omega arith

  -- and both bytes of a half together
  half_sums : bit_and byte_word 0x3FC00003FC000 / 64 + bit_and byte_word 0xFF00000FF
      ≡ ((a * 16 + b) * 256 + (c * 16 + d)) * 2 ^ 28 + ((e * 16 + f) * 256 + (g * 16 + h))
  half_sums = ap₂ (λ x y. x / 64 + y) far near ∙ sums (a * 16 + b) (c * 16 + d) (e * 16 + f) (g * 16 + h)
    where
      far : bit_and byte_word 0x3FC00003FC000 ≡ (a * 16 + b) * 2 ^ 14 * 2 ^ 28 + (e * 16 + f) * 2 ^ 14
      far = two_parts 4177920 ((a * 16 + b) * 2 ^ 14 + (c * 16 + d)) ((e * 16 + f) * 2 ^ 14 + (g * 16 + h)) (lit< tt)
          (omega arith)
          ∙ ap₂ (λ x y. x * 2 ^ 28 + y) (far_byte (a * 16 + b) (c * 16 + d) (omega arith) (omega arith))
          (far_byte (e * 16 + f) (g * 16 + h) (omega arith) (omega arith))

      near : bit_and byte_word 0xFF00000FF ≡ (c * 16 + d) * 2 ^ 28 + (g * 16 + h)
      near = two_parts 255 ((a * 16 + b) * 2 ^ 14 + (c * 16 + d)) ((e * 16 + f) * 2 ^ 14 + (g * 16 + h)) (lit< tt)
          (omega arith)
          ∙ ap₂ (λ x y. x * 2 ^ 28 + y) (near_byte (a * 16 + b) (c * 16 + d) (omega arith))
          (near_byte (e * 16 + f) (g * 16 + h) (omega arith))

      sums : (p q s t : ℕ) → (p * 2 ^ 14 * 2 ^ 28 + s * 2 ^ 14) / 64 + (q * 2 ^ 28 + t)
          ≡ (p * 256 + q) * 2 ^ 28 + (s * 256 + t)
      sums p q s t = omega arith

-- ---- a wide key's two halves of four digits
-- the digits of one half
half_digits : (z : ℕ) → z < 2 ^ 28 → Below 16 (four_wide z)
    → (z ≡ (z / 2 ^ 21 * 128 + z % 2 ^ 21 / 2 ^ 14) * 2 ^ 14 + (z % 2 ^ 21 % 2 ^ 14 / 128 * 128
    + z % 2 ^ 21 % 2 ^ 14 % 128))
    × (half_narrow z ≡ (z / 2 ^ 21 * 16 + z % 2 ^ 21 / 2 ^ 14) * 256
    + (z % 2 ^ 21 % 2 ^ 14 / 128 * 16 + z % 2 ^ 21 % 2 ^ 14 % 128))
unfolding half_narrow four_wide encode decode
half_digits z h b =
    (parts z, sums (z / 2 ^ 21) (z % 2 ^ 21 / 2 ^ 14) (z % 2 ^ 21 % 2 ^ 14 / 128) (z % 2 ^ 21 % 2 ^ 14 % 128))
  where
    low : (w : ℕ) → w ≡ w / 128 * 128 + w % 128
    low w = omega arith

    middle : (w : ℕ) → w ≡ w / 2 ^ 14 * 2 ^ 14 + w % 2 ^ 14
    middle w = omega arith

    parts : (z : ℕ) → z ≡ (z / 2 ^ 21 * 128 + z % 2 ^ 21 / 2 ^ 14) * 2 ^ 14
        + (z % 2 ^ 21 % 2 ^ 14 / 128 * 128 + z % 2 ^ 21 % 2 ^ 14 % 128)
    parts z =
        let x : z ≡ z / 2 ^ 21 * 2 ^ 21 + z % 2 ^ 21 = omega arith in
        omega (arith, x, middle (z % 2 ^ 21), low (z % 2 ^ 21 % 2 ^ 14))

    sums : (a b c d : ℕ) → a * 4096 + (b * 256 + (c * 16 + (d / 1 * 1 + 0))) ≡ (a * 16 + b) * 256 + (c * 16 + d)
    sums a b c d = omega arith

-- their digits moved together
module _ (u v : ℕ) (hu : u < 2 ^ 28) (hv : v < 2 ^ 28) (bu : Below 16 (four_wide u)) (bv : Below 16 (four_wide v)) where
  abbrev gathered_bytes : ℕ
  gathered_bytes =
      bit_and (u * 268435456 + v) 0x1E007801E00780 / 8 + bit_and (u * 268435456 + v) 0x3C00F003C00F

  pub gathered_halves : bit_and gathered_bytes 0x3FC00003FC000 / 64 + bit_and gathered_bytes 0xFF00000FF
      ≡ half_narrow u * 268435456 + half_narrow v
  unfolding four_wide decode
  gathered_halves =
      let x = half_digits u hu bu in
      let y = half_digits v hv bv in
      let last : (w : ℕ) → w / 1 ≡ w = NatL.div-one in
      let du = subst (λ w. w < 16) (last (u % 2 ^ 21 % 2 ^ 14 % 128)) bu.1.1.1.0 in
      let dv = subst (λ w. w < 16) (last (v % 2 ^ 21 % 2 ^ 14 % 128)) bv.1.1.1.0 in
      ap (λ z. bit_and (bit_and z 0x1E007801E00780 / 8 + bit_and z 0x3C00F003C00F) 0x3FC00003FC000 / 64
      + bit_and (bit_and z 0x1E007801E00780 / 8 + bit_and z 0x3C00F003C00F) 0xFF00000FF)
      (ap₂ (λ y z. y * 268435456 + z) x.0 y.0 ∙ joined _ _ _ _)
      ∙ ap (λ z. bit_and z 0x3FC00003FC000 / 64 + bit_and z 0xFF00000FF)
      (byte_sums _ _ _ _ _ _ _ _ bu.0 bu.1.0 bu.1.1.0 du bv.0 bv.1.0 bv.1.1.0 dv)
      ∙ half_sums _ _ _ _ _ _ _ _ bu.0 bu.1.0 bu.1.1.0 du bv.0 bv.1.0 bv.1.1.0 dv
      ∙ ap₂ (λ y z. y * 268435456 + z) (sym x.1) (sym y.1)
    where
      joined : (a b c d : ℕ) → (a * 2 ^ 14 + b) * 268435456 + (c * 2 ^ 14 + d)
          ≡ ((a * 2 ^ 14 + b) * 2 ^ 14 + c) * 2 ^ 14 + d
      joined a b c d = omega arith

-- the key of a wide key by its word
pub record GatheredKey (z halves : ℕ) : Type 0 where
  pub small : halves / 268435456 * 65536 + halves % 268435456 < 2 ^ 32
  pub is : halves / 268435456 * 65536 + halves % 268435456 ≡ narrowed z

pub gathered_key : (z : ℕ) → z < 2 ^ 64 → Below 16 (wide_exponents z)
    → let x = z / 256 in
    let y = bit_and x 0x1E007801E00780 / 8 + bit_and x 0x3C00F003C00F in
    GatheredKey z (bit_and y 0x3FC00003FC000 / 64 + bit_and y 0xFF00000FF)
gathered_key z h b =
    let u = z / 256 / 268435456 in
    let v = z / 256 % 268435456 in
    let bu = narrow_high z h b in
    let bv = narrow_low z h b in
    let whole : u * 268435456 + v ≡ z / 256 = omega arith in
    let e = gathered_halves u v (omega arith) (omega arith) bu bv in
    let f = subst (λ x. bit_and (bit_and x 0x1E007801E00780 / 8 + bit_and x 0x3C00F003C00F) 0x3FC00003FC000 / 64
    + bit_and (bit_and x 0x1E007801E00780 / 8 + bit_and x 0x3C00F003C00F) 0xFF00000FF
    ≡ half_narrow u * 268435456 + half_narrow v) whole e in
    subst (GatheredKey z) (sym f)
    (halves_key (half_narrow u) (half_narrow v) (half_narrow_lt u bu) (half_narrow_lt v bv) (narrow_halves z h))
  where
    halves_key : (a r : ℕ) → a < 65536 → r < 65536 → a * 65536 + r ≡ narrowed z
        → GatheredKey z (a * 268435456 + r)
    halves_key a r ha hr e =
        let x : (a * 268435456 + r) / 268435456 ≡ a = omega arith in
        let y : (a * 268435456 + r) % 268435456 ≡ r = omega arith in
        record { small = rw (x, y) (omega arith); is = rw (x, y) e }
