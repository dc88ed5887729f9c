-- A key in two halves of four digits: its divisor, its wide key, and the way back.
use Rattle.std.specs.Prelude.{◌≡◌, refl, length}
use Rattle.std.proofs.Common.{sym, ◌∙◌, add-one, arith, lit<, pow-add, pow_pos}
use Rattle.std.proofs.Math.Path.{ap, ap₂, subst}
use mathlib.Core.List.{List, [], ◌∷◌, ◌++◌}
use Prim.Native.Nat.{ℕ, zero, suc, ◌+◌, ◌-◌, ◌*◌, ◌/◌, ◌%◌, ◌^◌, ◌≤◌, ◌<◌}
use Rattle.std.proofs.Math.Nat as NatL
use Rattle.std.proofs.Math.Pow.{field, mod-mod-pow}
use Rattle.polynomial.specs.Integral.{first, rest, divisor}
use Rattle.calculus.specs.Monomial.{degree}
use Rattle.calculus.specs.Key.{encode, decode, key_width, key_limit, key_degree, Below}
use Rattle.calculus_laws.specs.KeyLaws.{encode_lt, decode_length, decode_below}
use Rattle.model_keys.specs.KeyDegreeLaws.{degree_below}
use Rattle.model_keys.specs.Keys.{key_divisor, wide_base, wide_width, degree_base, widened, wide_exponents}
use Rattle.model_keys.specs.Keys.{narrowed}

-- ---- lists
encode_split : (base v w : ℕ) (k l : List ℕ) → length k ≡ v
    → encode base (v + w) (k ++ l) ≡ encode base v k * base ^ w + encode base w l
unfolding encode
encode_split base zero w [] l e = ap (λ i. encode base i l) (NatL.zero-add w) ∙ omega arith
encode_split base (suc v) w [] l e = absurd (omega arith)
encode_split base zero w (d ∷ k) l e = absurd (omega arith)
encode_split base (suc v) w (d ∷ k) l e =
    ap (λ i. encode base i (d ∷ (k ++ l))) (NatL.suc-add v w)
    ∙ ap₂ (λ x y. d * x + y) (pow-add base v w) (encode_split base v w k l (omega arith))
    ∙ sums d (base ^ v) (base ^ w) (encode base v k) (encode base w l)
  where
    sums : (d p q x y : ℕ) → d * (p * q) + (x * q + y) ≡ (d * p + x) * q + y
    sums d p q x y =
        let a : d * (p * q) ≡ d * p * q = sym (NatL.mul_assoc d p q) in
        let b : (d * p + x) * q ≡ d * p * q + x * q = NatL.add-mul (d * p) x q in omega arith

divisor_split : (v w : ℕ) (k l : List ℕ) → length k ≡ v → divisor (v + w) (k ++ l) ≡ divisor v k * divisor w l
unfolding divisor first rest
divisor_split zero w [] l e = ap (λ i. divisor i l) (NatL.zero-add w) ∙ omega arith
divisor_split (suc v) w [] l e = absurd (omega arith)
divisor_split zero w (d ∷ k) l e = absurd (omega arith)
divisor_split (suc v) w (d ∷ k) l e =
    ap (λ i. divisor i (d ∷ (k ++ l))) (NatL.suc-add v w)
    ∙ ap (λ x. suc d * x) (divisor_split v w k l (omega arith))
    ∙ sym (NatL.mul_assoc (suc d) (divisor v k) (divisor w l))

below_left : (base : ℕ) (k l : List ℕ) → Below base (k ++ l) → Below base k
below_left base [] l b = tt
below_left base (d ∷ k) l b = (b.0, below_left base k l b.1)

below_right : (base : ℕ) (k l : List ℕ) → Below base (k ++ l) → Below base l
below_right base [] l b = b
below_right base (d ∷ k) l b = below_right base k l b.1

-- ---- digits of b bits
module _ (b : ℕ) where
  power : (w : ℕ) → (2 ^ b) ^ w ≡ 2 ^ (b * w)
  power zero = NatL.pow-zero (2 ^ b) ∙ ap (λ i. 2 ^ i) (sym (NatL.mul-zero b))
  power (suc w) = NatL.pow-suc (2 ^ b) w ∙ ap (λ x. x * 2 ^ b) (power w) ∙ sym (pow-add 2 (b * w) b)
      ∙ ap (λ i. 2 ^ i) (sym (NatL.mul-suc b w))

  decode_split : (v w z : ℕ) → z < (2 ^ b) ^ (v + w)
      → decode (2 ^ b) (v + w) (v + w) z
      ≡ decode (2 ^ b) v v (z / (2 ^ b) ^ w) ++ decode (2 ^ b) w w (z % (2 ^ b) ^ w)
  unfolding decode
  decode_split zero w z h =
      let s : z < (2 ^ b) ^ w = subst (λ i. z < (2 ^ b) ^ i) (NatL.zero-add w) h in
      ap₂ (λ i y. decode (2 ^ b) i i y) (NatL.zero-add w) (sym (NatL.mod-eq_of_lt s))
  decode_split (suc v) w z h =
      ap (λ i. decode (2 ^ b) i i z) (NatL.suc-add v w)
      ∙ ap₂ ◌∷◌ head (decode_split v w (z % p) (NatL.mod-lt z (NatL.one-le-pow (v + w) (2 ^ b) (pow_pos b)))
      ∙ ap₂ (λ x y. decode (2 ^ b) v v x ++ decode (2 ^ b) w w y) upper lower)
    where
      p : ℕ
      p = (2 ^ b) ^ (v + w)

      parts : p ≡ 2 ^ (b * v + b * w)
      parts = power (v + w) ∙ ap (λ i. 2 ^ i) (NatL.mul-add b v w)

      head : z / p ≡ z / (2 ^ b) ^ w / (2 ^ b) ^ v
      head = ap (λ x. z / x) (pow-add (2 ^ b) v w ∙ NatL.mul_comm ((2 ^ b) ^ v) ((2 ^ b) ^ w))
          ∙ sym (NatL.div-div-eq-div-mul z ((2 ^ b) ^ w) ((2 ^ b) ^ v))

      upper : z % p / (2 ^ b) ^ w ≡ z / (2 ^ b) ^ w % (2 ^ b) ^ v
      upper = ap₂ (λ x y. z % x / y) parts (power w) ∙ field z (b * v) (b * w)
          ∙ sym (ap₂ (λ x y. z / x % y) (power w) (power v))

      lower : z % p % (2 ^ b) ^ w ≡ z % (2 ^ b) ^ w
      lower = ap₂ (λ x y. z % x % y) parts (power w) ∙ mod-mod-pow z (b * v) (b * w)
          ∙ sym (ap (λ y. z % y) (power w))

-- ---- a key of four digits
unfoldable pub four_digits : ℕ → List ℕ
four_digits = decode 16 4 4

four_long : (z : ℕ) → length (four_digits z) ≡ 4
unfolding four_digits
four_long z = decode_length 16 (lit< tt) 4 4 z (omega arith)

key_halves : (z : ℕ) → z < key_limit → decode 16 8 8 z ≡ four_digits (z / 65536) ++ four_digits (z % 65536)
unfolding four_digits key_limit key_width
key_halves z h = decode_split 4 4 4 z h

-- the product of (exponent + 1)
unfoldable pub half_divisor : ℕ → ℕ
half_divisor z = divisor 4 (four_digits z)

pub divisor_halves : (z : ℕ) → z < key_limit → half_divisor (z / 65536) * half_divisor (z % 65536) ≡ key_divisor z
unfolding half_divisor key_width
divisor_halves z h = sym (ap (divisor 8) (key_halves z h)
    ∙ divisor_split 4 4 (four_digits (z / 65536)) (four_digits (z % 65536)) (four_long (z / 65536)))

-- of a key of up to four variables
pub divisor_upper : (z : ℕ) → z < key_limit → z % 65536 ≡ 0 → half_divisor (z / 65536) ≡ key_divisor z
unfolding half_divisor four_digits divisor first rest decode
divisor_upper z h e = sym (NatL.mul-one (half_divisor (z / 65536)))
    ∙ ap (λ x. half_divisor (z / 65536) * half_divisor x) (sym e) ∙ divisor_halves z h

half_digits : (z : ℕ) → half_divisor z
    ≡ (z / 4096 + 1) * ((z % 4096 / 256 + 1) * ((z % 4096 % 256 / 16 + 1) * (z % 4096 % 256 % 16 + 1)))
unfolding half_divisor four_digits divisor first rest decode
half_digits z = ap₂ ◌*◌ (sym (add-one (z / 4096))) (ap₂ ◌*◌ (sym (add-one (z % 4096 / 256)))
    (ap₂ ◌*◌ (sym (add-one (z % 4096 % 256 / 16)))
    (NatL.mul-one _ ∙ ap suc (NatL.div-one (z % 4096 % 256 % 16)) ∙ sym (add-one (z % 4096 % 256 % 16)))))

pub divisor_key : (z : ℕ)
    → (z / 4096 + 1) * ((z % 4096 / 256 + 1) * ((z % 4096 % 256 / 16 + 1) * (z % 4096 % 256 % 16 + 1))) ≡ half_divisor z
divisor_key z = sym (half_digits z)

-- each factor is at most 16
module _ (z : ℕ) (h : z < 65536) where
  pub two_factors : (z % 4096 % 256 / 16 + 1) * (z % 4096 % 256 % 16 + 1) ≤ 256
  two_factors =
      let p : z % 4096 % 256 / 16 + 1 ≤ 16 = omega arith in
      let q : z % 4096 % 256 % 16 + 1 ≤ 16 = omega arith in NatL.mul-le-mul p q

  pub three_factors : (z % 4096 / 256 + 1) * ((z % 4096 % 256 / 16 + 1) * (z % 4096 % 256 % 16 + 1)) ≤ 4096
  three_factors = let p : z % 4096 / 256 + 1 ≤ 16 = omega arith in NatL.mul-le-mul p two_factors

  pub four_factors :
      (z / 4096 + 1) * ((z % 4096 / 256 + 1) * ((z % 4096 % 256 / 16 + 1) * (z % 4096 % 256 % 16 + 1))) ≤ 65536
  four_factors = let p : z / 4096 + 1 ≤ 16 = omega arith in NatL.mul-le-mul p three_factors

  pub half_divisor_le : half_divisor z ≤ 65536
  half_divisor_le = subst (λ x. x ≤ 65536) (divisor_key z) four_factors

-- the exponents, each with seven bits
unfoldable pub half_wide : ℕ → ℕ
half_wide z = encode wide_base 4 (four_digits z)

below_wide : (k : List ℕ) → Below 16 k → Below wide_base k
below_wide [] b = tt
below_wide (e ∷ k) b = (omega (arith, b.0), below_wide k b.1)

pub half_wide_lt : (z : ℕ) → z < 65536 → half_wide z < 268435456
unfolding half_wide four_digits
half_wide_lt z h = encode_lt wide_base (lit< tt) 4 (four_digits z)
    (below_wide (four_digits z) (decode_below 16 (lit< tt) 4 4 z h)) (omega (arith, four_long z))

pub key_degree_lt : (z : ℕ) → z < key_limit → key_degree z < 256
unfolding key_degree key_limit key_width
key_degree_lt z h = omega (
  arith,
  degree_below 15 (decode 16 8 8 z) (decode_below 16 (lit< tt) 8 8 z h),
  decode_length 16 (lit< tt) 8 8 z (omega arith),
)

pub wide_halves : (z : ℕ) → z < key_limit
    → (half_wide (z / 65536) * 268435456 + half_wide (z % 65536)) * 256 + key_degree z ≡ widened z
unfolding half_wide widened key_degree key_width
wide_halves z h = ap (λ x. x * 256 + degree (decode 16 8 8 z)) (sym (ap (encode wide_base 8) (key_halves z h)
    ∙ encode_split wide_base 4 4 (four_digits (z / 65536)) (four_digits (z % 65536)) (four_long (z / 65536))))

-- ---- four exponents of seven bits
unfoldable pub four_wide : ℕ → List ℕ
four_wide = decode wide_base 4 4

wide_long : (z : ℕ) → length (four_wide z) ≡ 4
unfolding four_wide
wide_long z = decode_length wide_base (lit< tt) 4 4 z (omega arith)

exponent_halves : (z : ℕ) → z < 2 ^ 64
    → wide_exponents z ≡ four_wide (z / 256 / 268435456) ++ four_wide (z / 256 % 268435456)
unfolding four_wide wide_exponents key_width
exponent_halves z h = decode_split 7 4 4 (z / 256) (omega arith)

unfoldable pub half_narrow : ℕ → ℕ
half_narrow z = encode 16 4 (four_wide z)

pub half_narrow_lt : (z : ℕ) → Below 16 (four_wide z) → half_narrow z < 65536
unfolding half_narrow
half_narrow_lt z b = encode_lt 16 (lit< tt) 4 (four_wide z) b (omega (arith, wide_long z))

pub narrow_halves : (z : ℕ) → z < 2 ^ 64
    → half_narrow (z / 256 / 268435456) * 65536 + half_narrow (z / 256 % 268435456) ≡ narrowed z
unfolding half_narrow narrowed key_width
narrow_halves z h = sym (ap (encode 16 8) (exponent_halves z h)
    ∙ encode_split 16 4 4 (four_wide (z / 256 / 268435456)) (four_wide (z / 256 % 268435456))
    (wide_long (z / 256 / 268435456)))

pub narrow_high : (z : ℕ) → z < 2 ^ 64 → Below 16 (wide_exponents z) → Below 16 (four_wide (z / 256 / 268435456))
narrow_high z h b = below_left 16 (four_wide (z / 256 / 268435456)) _ (subst (Below 16) (exponent_halves z h) b)

pub narrow_low : (z : ℕ) → z < 2 ^ 64 → Below 16 (wide_exponents z) → Below 16 (four_wide (z / 256 % 268435456))
narrow_low z h b = below_right 16 (four_wide (z / 256 / 268435456)) _ (subst (Below 16) (exponent_halves z h) b)
