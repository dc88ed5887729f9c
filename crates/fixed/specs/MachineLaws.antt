-- Signed values of the machine against the integers.
use Rattle.std.specs.Prelude.{Bool, true, false, ◌≡◌, refl, ℕ, ◌+◌, ◌^◌, ◌≤◌, ◌<◌, ℤ, pos, negsuc, nat_abs, ◌-ℤ◌}
use Rattle.std.proofs.Common.{sym, ◌∙◌, arith, ltb-true, le-leb, to_z-of_z}
use Rattle.std.specs.Int.Signed.{non_neg, le_z, lt_z, mag}
use Rattle.std.specs.Int.{Width, w64}
use mir.Val.{SFits, to_z, of_z, hbits}
use Rattle.algebra.specs.Integer.{Is, is+, is-, is, is_eq, is_add, is_nat, is_neg, plus, minus}

-- ---- the range of a width: −2^h ≤ z < 2^h
pub fits_range : {w : Width} {z : ℤ} {a b : ℕ} → Is z a b → a < 2 ^ hbits w + b → b ≤ 2 ^ hbits w + a → SFits w z
fits_range (is+ h) p q = record { sfits = omega arith }
fits_range (is- h) p q = record { sfits = omega arith }

pub range_of : {w : Width} {z : ℤ} → SFits w z → (plus z < 2 ^ hbits w) × (minus z ≤ 2 ^ hbits w)
range_of {z = pos n} f = let h = f.sfits in omega arith
range_of {z = negsuc n} f = let h = f.sfits in omega arith

-- what is smaller than 2^h in size is within it
pub fits_size : {w : Width} {z : ℤ} → nat_abs z < 2 ^ hbits w → SFits w z
fits_size {z = pos n} h = record { sfits = h }
fits_size {z = negsuc n} h = record { sfits = omega arith }

-- ---- what code reads back
-- a call's answer: its range, and what the callee promised
pub answered : {z y : ℤ} → mag z < 2 ^ hbits w64 → z ≡ y → to_z w64 (of_z w64 z) ≡ y
answered h e = to_z-of_z {w = w64} (record { sfits = h }) ∙ e

-- the test z < 0
pub negative : {w : Width} {z : ℤ} → SFits w z → lt_z (to_z w (of_z w z)) (pos 0) ≡ true → z ≡ negsuc (mag z)
negative {z} f t = go z (rw (to_z-of_z f) at t)
  where
    go : (z : ℤ) → lt_z z (pos 0) ≡ true → z ≡ negsuc (mag z)
    go (pos n) t = absurd (omega (arith, ltb-true n 0 t))
    go (negsuc n) t = refl

pub not_negative : {w : Width} {z : ℤ} → SFits w z → lt_z (to_z w (of_z w z)) (pos 0) ≡ false → z ≡ pos (mag z)
not_negative {z} f t = go z (rw (to_z-of_z f) at t)
  where
    go : (z : ℤ) → lt_z z (pos 0) ≡ false → z ≡ pos (mag z)
    go (pos n) t = refl
    go (negsuc n) t = absurd (let e : ◌≡◌ {A = ℕ} 0 1 = cc in omega arith)

-- the test 0 ≤ z
pub from_zero : {w : Width} {z : ℤ} {b : Bool} → SFits w z → le_z (pos 0) (to_z w (of_z w z)) ≡ b → non_neg z ≡ b
from_zero {z} f t = go z ∙ rw (to_z-of_z f) at t
  where
    go : (z : ℤ) → non_neg z ≡ le_z (pos 0) z
    go (pos n) = sym (le-leb 0 n (omega arith))
    go (negsuc n) = refl

-- ---- the complement −1 − z
pub complement_pos : (n : ℕ) → negsuc 0 -ℤ pos n ≡ negsuc n
complement_pos n = is_eq (is_add (is (negsuc 0)) (is_neg (is_nat n))) (is (negsuc n)) (omega arith)

pub complement_negsuc : (n : ℕ) → negsuc 0 -ℤ negsuc n ≡ pos n
complement_negsuc n = is_eq (is_add (is (negsuc 0)) (is_neg (is (negsuc n)))) (is_nat n) (omega arith)

pub fits_complement : {w : Width} {z : ℤ} → SFits w z → SFits w (negsuc 0 -ℤ z)
fits_complement {z} f =
    let r = range_of f in
    fits_range (is_add (is (negsuc 0)) (is_neg (is z))) (omega arith) (omega arith)
