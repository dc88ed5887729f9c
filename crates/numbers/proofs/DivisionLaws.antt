-- What rounding down and up promise.
use Rattle.std.specs.Prelude.{◌≡◌, refl, ℕ, pred, suc, ◌+◌, ◌-◌, ◌*◌, ◌≤◌, ◌<◌, ◌/◌, ◌%◌, ℤ, pos, negsuc, neg_ℤ, nat_abs, ◌-ℤ◌, ◌*ℤ◌, ◌≤ℤ◌}
use Rattle.std.proofs.Math.Path.{sym}
use Rattle.std.proofs.Common.{ap, subst, arith}
use Rattle.std.proofs.Math.Nat as NatL
use Rattle.std.proofs.Math.IntN.{neg_ℤ-neg_ℤ}
use Rattle.std.specs.Int.Signed.{yes_non_neg, pos-nat_abs}
use Rattle.algebra.specs.Integer.{natAbs_neg}
use Rattle.algebra.specs.Integer.{Is, is+, is-, is, is_mul, is_nat, is_sub_mul, is_parts, plus, minus, natAbs_bound}
use Rattle.algebra.specs.RingSolver.{◌⊠◌, ⊝◌, ring}
use Rattle.algebra.specs.IntegerRing.{ℤR, ℤO, of_le}
use Rattle.algebra.specs.OrderedLaws.{neg_mono}
use Rattle.numbers.specs.Division.{floor, ceiling, remainder, divided_up}

-- the floor times d is at most z,
low : (z : ℤ) (d : ℕ) → 0 < d → plus (floor z d) * d + minus z ≤ plus z + minus (floor z d) * d
unfolding floor
low (pos n) d h = omega (arith, NatL.div-mul-le_self n d)
low (negsuc n) d h = omega (arith, NatL.lt-mul-div-succ n h)

-- and z is less than d above it
high : (z : ℤ) (d : ℕ) → 0 < d → plus z + minus (floor z d) * d < plus (floor z d) * d + minus z + d
unfolding floor
high (pos n) d h = omega (arith, NatL.lt-mul-div-succ n h)
high (negsuc n) d h = omega (arith, NatL.div-mul-le_self n d)

pub floor_le : (z : ℤ) (d : ℕ) → 0 < d → (floor z d *ℤ pos d) ≤ℤ z
floor_le z d h = of_le (is_mul (is (floor z d)) (is_nat d)) (is z) (omega (arith, low z d h))

pub le_ceiling : (z : ℤ) (d : ℕ) → 0 < d → z ≤ℤ (ceiling z d *ℤ pos d)
unfolding ceiling
le_ceiling z d h =
    subst (λ x. x ≤ℤ (ceiling z d *ℤ pos d)) (neg_ℤ-neg_ℤ z)
    (subst (λ x. neg_ℤ (neg_ℤ z) ≤ℤ x)
    (ring 2 ℤR (λ a b. ⊝ (a ⊠ b)) (λ a b. (⊝ a) ⊠ b) refl (floor (neg_ℤ z) d) (pos d))
    (neg_mono ℤO (floor_le (neg_ℤ z) d h)))

-- dividing makes no number larger
pub floor_le_abs : (z : ℤ) (d : ℕ) → nat_abs (floor z d) ≤ nat_abs z
unfolding floor
floor_le_abs (pos n) d = NatL.div-le_self n d
floor_le_abs (negsuc n) d = omega (arith, NatL.div-le_self n d)

pub ceiling_le_abs : (z : ℤ) (d : ℕ) → nat_abs (ceiling z d) ≤ nat_abs z
unfolding ceiling
ceiling_le_abs z d = omega (arith, natAbs_neg (floor (neg_ℤ z) d), natAbs_neg z, floor_le_abs (neg_ℤ z) d)

-- ---- division with remainder
module _ (z : ℤ) (d : ℕ) (h : 0 < d) where
  pub remainder_is : z -ℤ floor z d *ℤ pos d ≡ pos (remainder z d)
  unfolding remainder
  remainder_is =
      let l = low z d h in
      sym (pos-nat_abs _ (yes_non_neg (of_le (is_nat 0) (is_sub_mul (is z) (is (floor z d)) d) (omega arith))))

  pub remainder_lt : remainder z d < d
  unfolding remainder
  remainder_lt =
      let l = low z d h in
      let g = high z d h in
      omega (arith, natAbs_bound (is_sub_mul (is z) (is (floor z d)) d) (pred d) (omega arith) (omega arith))

  -- z is the floor times d and the remainder
  pub division : plus (floor z d) * d + remainder z d + minus z ≡ plus z + minus (floor z d) * d
  division = omega (arith, rw remainder_is at (is_parts (is_sub_mul (is z) (is (floor z d)) d)))

-- and of no other number with a remainder below d
pub floor_unique : {z q : ℤ} {a b x y : ℕ} → Is z a b → Is q x y → (d r : ℕ) → x * d + r + b ≡ a + y * d → r < d
    → floor z d ≡ q
unfolding floor
floor_unique (is+ h) (is+ k) d r e l =
    let m = ap (λ i. i * d) k in
    ap pos (NatL.div-eq_of_lt-le d (omega arith) (omega arith))
floor_unique (is+ h) (is- k) d r e l = let m = ap (λ i. i * d) k in absurd (omega arith)
floor_unique (is- h) (is+ k) d r e l = let m = ap (λ i. i * d) k in absurd (omega arith)
floor_unique (is- h) (is- k) d r e l =
    let m = ap (λ i. i * d) k in
    ap negsuc (NatL.div-eq_of_lt-le d (omega arith) (omega arith))

-- ---- naturals rounded up
module _ (a d : ℕ) (h : 0 < d) where
  -- the quotient covers a,
  pub divided_up_ok : a ≤ d * divided_up a d
  unfolding divided_up
  divided_up_ok = omega (arith, NatL.lt-mul-div-succ (a + (d - 1)) h)

  -- and by less than the divisor more
  pub divided_up_least : d * divided_up a d < a + d
  unfolding divided_up
  divided_up_least = omega (arith, NatL.mul-div-le (a + (d - 1)) d)

  -- the only number that does both
  pub divided_up_unique : (q : ℕ) → a ≤ d * q → d * q < a + d → divided_up a d ≡ q
  divided_up_unique q l u =
      let below : divided_up a d < suc q = NatL.lt_of_mul-lt-mul_left d (omega (arith, divided_up_least)) in
      let above : q < suc (divided_up a d) = NatL.lt_of_mul-lt-mul_left d (omega (arith, divided_up_ok)) in
      omega arith

  -- and no larger than a
  pub divided_up_le : divided_up a d ≤ a
  divided_up_le =
      let below : divided_up a d < suc a = NatL.lt_of_mul-lt-mul_left d
      (omega (arith, divided_up_least, NatL.mul-le-mul_right a h)) in
      omega arith

  -- by the remainder: the quotient where it divides, one more where it does not
  pub divided_up_exact : a % d ≡ 0 → a / d ≡ divided_up a d
  divided_up_exact e = sym (divided_up_unique (a / d) (omega (arith, parts)) (omega (arith, parts)))
    where
      parts : d * (a / d) + a % d ≡ a
      parts = NatL.div-add-mod a d

  pub divided_up_inexact : 0 < a % d → a / d + 1 ≡ divided_up a d
  divided_up_inexact l = sym (divided_up_unique (a / d + 1)
      (omega (arith, NatL.div-add-mod a d, NatL.mod-lt a h)) (omega (arith, NatL.div-add-mod a d, NatL.mod-lt a h)))

  -- which is at most a
  pub inexact_below : 0 < a % d → a / d < a
  inexact_below l = omega (arith, NatL.div-add-mod a d, NatL.mul-le-mul_right (a / d) h)
