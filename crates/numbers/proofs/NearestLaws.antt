-- What rounding to the nearest promises: at most half of the divisor is left, a tie is even, and no other number is so;
-- the sign turns with the argument, what divides is exact, and the order is kept.
use Rattle.std.specs.Prelude.{◌≡◌, refl, Bool, true, false, ℕ, zero, suc, ◌+◌, ◌*◌, ◌-◌, ◌/◌, ◌%◌, ◌≤◌, ◌<◌, T, eqb, ℤ, pos, negsuc, neg_ℤ, nat_abs, ◌+ℤ◌, ◌-ℤ◌, ◌*ℤ◌, ◌≤ℤ◌}
use Rattle.std.proofs.Common.{sym, ◌∙◌, ap, subst, arith, lt-ltb, le-ltb, eq-eqb, ne_eqb, eqb→eq}
use Rattle.std.proofs.Math.Decide.{dec_le}
use Rattle.std.proofs.Math.Nat as NatL
use Rattle.algebra.specs.Integer.{is, is_eq, is_add, is_neg, is_nat, is_sub_mul, plus, minus, natAbs_bound}
use Rattle.algebra.specs.Integer.{natAbs_parts, natAbs_apart, natAbs_neg}
use Rattle.algebra.specs.IntegerRing.{ℤR, of_le, le_of}
use Rattle.algebra.specs.RingSolver.{◌⊟◌, ◌⊠◌, ⊝◌, ring}
use Rattle.numbers.specs.Division.{floor, remainder, is_even, even_of_two, nearest}
use Rattle.numbers.proofs.DivisionLaws.{division, remainder_lt}

-- ---- even and odd
-- after an odd number comes an even one, and after an even one an odd one
next_parity : (c : ℤ) → nat_abs (c +ℤ pos 1) % 2 + nat_abs c % 2 ≡ 1
next_parity (pos n) = let e : nat_abs (pos n +ℤ pos 1) ≡ n + 1 = refl in omega arith
next_parity (negsuc n) =
    let e : nat_abs (negsuc n +ℤ pos 1) ≡ n
    = ap nat_abs (is_eq (is_add (is (negsuc n)) (is_nat 1)) (is_neg (is_nat n)) (omega arith)) ∙ natAbs_neg (pos n) in
    omega arith

even_by : (c : ℤ) → nat_abs c % 2 ≡ 0 → T (is_even c)
unfolding is_even
even_by c h = subst (λ n. T (eqb n 0)) (sym h) tt

even_parity : (c : ℤ) → T (is_even c) → nat_abs c % 2 ≡ 0
unfolding is_even
even_parity c h = eqb→eq (nat_abs c % 2) 0 h

even_neg : (c : ℤ) → is_even (neg_ℤ c) ≡ is_even c
unfolding is_even
even_neg c = ap (λ n. eqb (n % 2) 0) (natAbs_neg c)

-- ---- the rule by the floor and the remainder
-- a test that is known
chosen : {b : Bool} (x y : ℤ) → b ≡ true → elim b as (λ b. ℤ) [ true ↦ x | false ↦ y ] ≡ x
chosen x y e = ap (λ b. elim b as (λ b. ℤ) [ true ↦ x | false ↦ y ]) e

other : {b : Bool} (x y : ℤ) → b ≡ false → elim b as (λ b. ℤ) [ true ↦ x | false ↦ y ] ≡ y
other x y e = ap (λ b. elim b as (λ b. ℤ) [ true ↦ x | false ↦ y ]) e

even_stays : (c : ℤ) → nat_abs c % 2 ≡ 0 → even_of_two c ≡ c
unfolding even_of_two is_even
even_stays c h = chosen _ _ (eq-eqb (nat_abs c % 2) 0 h)

odd_goes_on : (c : ℤ) → nat_abs c % 2 ≡ 1 → even_of_two c ≡ c +ℤ pos 1
unfolding even_of_two is_even
odd_goes_on c h = other _ _ (ne_eqb (nat_abs c % 2) 0 (λ e. omega arith))

module _ (z : ℤ) (d : ℕ) where
  -- twice what z is above its floor
  abbrev twice : ℕ
  twice = 2 * remainder z d

  nearest_below : twice < d → nearest z d ≡ floor z d
  unfolding nearest
  nearest_below h = chosen _ _ (lt-ltb twice d h)

  nearest_above : d < twice → nearest z d ≡ floor z d +ℤ pos 1
  unfolding nearest
  nearest_above h = other _ _ (le-ltb twice d (omega arith)) ∙ chosen _ _ (lt-ltb d twice h)

  nearest_halfway : twice ≡ d → nearest z d ≡ even_of_two (floor z d)
  unfolding nearest
  nearest_halfway h = other _ _ (le-ltb twice d (omega arith)) ∙ other _ _ (le-ltb d twice (omega arith))

  -- as code asks it: one more where the floor is odd
  pub nearest_down : twice + nat_abs (floor z d) % 2 ≤ d → nearest z d ≡ floor z d
  nearest_down h = go (dec_le (suc twice) d)
    where
      go : Dec (suc twice ≤ d) → nearest z d ≡ floor z d
      go (yes l) = nearest_below l
      go (no l) = nearest_halfway (omega arith) ∙ even_stays (floor z d) (omega arith)

  pub nearest_up : d < twice + nat_abs (floor z d) % 2 → nearest z d ≡ floor z d +ℤ pos 1
  nearest_up h = go (dec_le (suc d) twice)
    where
      go : Dec (suc d ≤ twice) → nearest z d ≡ floor z d +ℤ pos 1
      go (yes l) = nearest_above l
      go (no l) = nearest_halfway (omega arith) ∙ odd_goes_on (floor z d) (omega arith)

-- ---- what is left
-- c is the nearest to z / d: at most half of d is left, and where it is half c is even
pub record Nearest (z : ℤ) (d : ℕ) (c : ℤ) : Type 0 where
  pub half : 2 * nat_abs (z -ℤ c *ℤ pos d) ≤ d
  pub tie : 2 * nat_abs (z -ℤ c *ℤ pos d) ≡ d → T (is_even c)

module _ (z : ℤ) (d : ℕ) (h : 0 < d) where
  -- from the floor and from the number after it
  down : nat_abs (z -ℤ floor z d *ℤ pos d) ≤ remainder z d
  down =
      let e = division z d h in
      natAbs_bound (is_sub_mul (is z) (is (floor z d)) d) (remainder z d) (omega arith) (omega arith)

  up : nat_abs (z -ℤ (floor z d +ℤ pos 1) *ℤ pos d) ≤ d - remainder z d
  up =
      let e = division z d h in
      let l = remainder_lt z d h in
      natAbs_bound (is_sub_mul (is z) (is_add (is (floor z d)) (is_nat 1)) d) (d - remainder z d) (omega arith)
      (omega arith)

  pub nearest_is : Nearest z d (nearest z d)
  nearest_is = go (dec_le (2 * remainder z d + nat_abs (floor z d) % 2) d)
    where
      go : Dec (2 * remainder z d + nat_abs (floor z d) % 2 ≤ d) → Nearest z d (nearest z d)
      go (yes l) = subst (Nearest z d) (sym (nearest_down z d l)) (record {
        half = omega (arith, down);
        tie = λ e. even_by (floor z d) (omega (arith, down));
      })
      go (no l) = subst (Nearest z d) (sym (nearest_up z d (omega arith))) (record {
        half = omega (arith, up);
        tie = λ e. even_by (floor z d +ℤ pos 1) (omega (arith, up, next_parity (floor z d), remainder_lt z d h));
      })

  -- twice what is left is at most d
  pub nearest_le : 2 * nat_abs (z -ℤ nearest z d *ℤ pos d) ≤ d
  nearest_le = nearest_is.half

  -- at a tie the number is even
  pub nearest_even : 2 * nat_abs (z -ℤ nearest z d *ℤ pos d) ≡ d → T (is_even (nearest z d))
  nearest_even = nearest_is.tie

-- ---- order
-- z and c d are apart by what is left
apart : (z c : ℤ) (d : ℕ)
    → (plus z + minus c * d ≤ minus z + plus c * d + nat_abs (z -ℤ c *ℤ pos d))
    × (minus z + plus c * d ≤ plus z + minus c * d + nat_abs (z -ℤ c *ℤ pos d))
apart z c d = natAbs_apart (is_sub_mul (is z) (is c) d)

-- what is nearest to a smaller number is not above what is nearest to a larger one
not_above : (z y c q : ℤ) (d : ℕ) → 0 < d → Nearest z d c → Nearest y d q → plus z + minus y ≤ plus y + minus z
    → plus q + minus c < plus c + minus q → ⊥
not_above z y c q d h m n s l =
    omega (
      arith,
      next_parity q,
      even_parity q (n.tie (omega (arith, m.half, n.half, apart z c d, apart y q d, next_d))),
      ap (λ c. nat_abs c % 2) next,
      even_parity c (m.tie (omega (arith, m.half, n.half, apart z c d, apart y q d, next_d))),
    )
  where
    one : plus c + minus q ≡ plus q + minus c + 1
    one = go (dec_le (plus q + minus c + 2) (plus c + minus q))
      where
        go : Dec (plus q + minus c + 2 ≤ plus c + minus q) → plus c + minus q ≡ plus q + minus c + 1
        go (yes k) = absurd (omega (arith, apart z c d, apart y q d, m.half, n.half, NatL.mul-le-mul_right d k))
        go (no k) = omega arith

    next_d : (plus c + minus q) * d ≡ (plus q + minus c + 1) * d
    next_d = ap (λ i. i * d) one

    next : c ≡ q +ℤ pos 1
    next = is_eq (is c) (is_add (is q) (is_nat 1)) (omega (arith, one))

-- no other number is the nearest
pub nearest_unique : (z c : ℤ) (d : ℕ) → 0 < d → Nearest z d c → nearest z d ≡ c
nearest_unique z c d h n =
    go (dec_le (plus q + minus c) (plus c + minus q)) (dec_le (plus c + minus q) (plus q + minus c))
  where
    q : ℤ
    q = nearest z d

    go : Dec (plus q + minus c ≤ plus c + minus q) → Dec (plus c + minus q ≤ plus q + minus c) → nearest z d ≡ c
    go (yes k) (yes l) = is_eq (is q) (is c) (omega arith)
    go (no k) l = absurd (not_above z z q c d h (nearest_is z d h) n (omega arith) (omega arith))
    go (yes k) (no l) = absurd (not_above z z c q d h n (nearest_is z d h) (omega arith) (omega arith))

-- the order is kept
pub nearest_mono : (z y : ℤ) (d : ℕ) → 0 < d → z ≤ℤ y → nearest z d ≤ℤ nearest y d
nearest_mono z y d h l = go (dec_le (plus c + minus q) (plus q + minus c))
  where
    c : ℤ
    c = nearest z d

    q : ℤ
    q = nearest y d

    go : Dec (plus c + minus q ≤ plus q + minus c) → nearest z d ≤ℤ nearest y d
    go (yes k) = of_le (is c) (is q) (omega arith)
    go (no k) = absurd
        (not_above z y c q d h (nearest_is z d h) (nearest_is y d h) (le_of (is z) (is y) l) (omega arith))

-- what is left does not see the signs turned
pub left_neg : (z c : ℤ) (d : ℕ) → nat_abs (neg_ℤ z -ℤ neg_ℤ c *ℤ pos d) ≡ nat_abs (z -ℤ c *ℤ pos d)
left_neg z c d =
    ap nat_abs (ring 3 ℤR (λ z c d. ⊝ z ⊟ ⊝ c ⊠ d) (λ z c d. ⊝ (z ⊟ c ⊠ d)) refl z c (pos d))
    ∙ natAbs_neg (z -ℤ c *ℤ pos d)

-- the sign turns with the argument
pub nearest_neg : (z : ℤ) (d : ℕ) → 0 < d → nearest (neg_ℤ z) d ≡ neg_ℤ (nearest z d)
nearest_neg z d h = nearest_unique (neg_ℤ z) (neg_ℤ c) d h (record {
  half = rw (left_neg z c d) (nearest_le z d h);
  tie = λ e. rw (even_neg c) (nearest_even z d h (ap (λ i. 2 * i) (sym (left_neg z c d)) ∙ e));
})
  where
    c : ℤ
    c = nearest z d

-- what divides is exact
pub nearest_exact : (c : ℤ) (d : ℕ) → 0 < d → nearest (c *ℤ pos d) d ≡ c
nearest_exact c d h =
    nearest_unique z c d h (record { half = omega (arith, none); tie = λ e. absurd (omega (arith, none)) })
  where
    z : ℤ
    z = c *ℤ pos d

    none : nat_abs (z -ℤ z) ≡ 0
    none = ap nat_abs (is_eq (is_add (is z) (is_neg (is z))) (is_nat 0) (omega arith))

-- ---- size
-- no more is left than there was, and the number is no larger
smaller : (z c : ℤ) (d : ℕ) → 0 < d → 2 * nat_abs (z -ℤ c *ℤ pos d) ≤ d
    → (nat_abs (z -ℤ c *ℤ pos d) ≤ nat_abs z) × (nat_abs c ≤ nat_abs z)
smaller z (pos zero) d h l =
    let p = natAbs_parts z in
    (natAbs_bound (is_sub_mul (is z) (is_nat 0) d) (nat_abs z) (omega arith) (omega arith), omega arith)
smaller z (pos (suc n)) d h l =
    omega (arith, apart z (pos (suc n)) d, natAbs_parts z, NatL.mul-le-mul_left n h)
smaller z (negsuc n) d h l =
    omega (arith, apart z (negsuc n) d, natAbs_parts z, NatL.mul-le-mul_left n h)

pub left_le_abs : (z : ℤ) (d : ℕ) → 0 < d → nat_abs (z -ℤ nearest z d *ℤ pos d) ≤ nat_abs z
left_le_abs z d h = (smaller z (nearest z d) d h (nearest_le z d h)).0

pub nearest_le_abs : (z : ℤ) (d : ℕ) → 0 < d → nat_abs (nearest z d) ≤ nat_abs z
nearest_le_abs z d h = (smaller z (nearest z d) d h (nearest_le z d h)).1

-- what divides leaves nothing
module _ (d : ℕ) (h : 0 < d) where
  divides_pos : (n : ℕ) → n % d ≡ 0 → nearest (pos n) d *ℤ pos d ≡ pos n
  divides_pos n e = ap (λ c. c *ℤ pos d) (ap (λ z. nearest z d) parts ∙ nearest_exact (pos (n / d)) d h) ∙ sym parts
    where
      parts : pos n ≡ pos (n / d) *ℤ pos d
      parts = ap pos (omega (arith, e, NatL.div-add-mod n d, NatL.mul_comm d (n / d)))

  pub nearest_divides : (z : ℤ) → nat_abs z % d ≡ 0 → nearest z d *ℤ pos d ≡ z
  nearest_divides (pos n) e = divides_pos n e
  nearest_divides (negsuc n) e = ap (λ c. c *ℤ pos d) (nearest_neg (pos (suc n)) d h)
      ∙ ring 2 ℤR (λ c d. ⊝ c ⊠ d) (λ c d. ⊝ (c ⊠ d)) refl (nearest (pos (suc n)) d) (pos d)
      ∙ ap neg_ℤ (divides_pos (suc n) e)

-- what does not divide comes out smaller
module _ (z : ℤ) (d : ℕ) (h : 0 < d) (l : 0 < nat_abs z % d) where
  -- no unit divides, and 0 is divided by all
  large : 2 ≤ d
  large = omega (arith, NatL.mod-lt (nat_abs z) h)

  not_zero : 0 < nat_abs z
  not_zero = omega (arith, NatL.div-add-mod (nat_abs z) d)

  shrinks : (c : ℤ) → Nearest z d c → nat_abs c < nat_abs z
  shrinks (pos zero) m = not_zero
  shrinks (pos (suc n)) m = go (dec_le (suc (suc n)) (nat_abs z))
    where
      twice_n : n * 2 ≤ n * d
      twice_n = NatL.mul-le-mul_left n large

      go : Dec (suc (suc n) ≤ nat_abs z) → suc n < nat_abs z
      go (yes k) = k
      go (no k) = absurd (omega (
        arith,
        even_parity (pos (suc n)) (m.tie (omega
            (arith, m.half, apart z (pos (suc n)) d, natAbs_parts z, large, not_zero, twice_n))),
        m.half,
        apart z (pos (suc n)) d,
        natAbs_parts z,
        large,
        not_zero,
        twice_n,
      ))
  shrinks (negsuc n) m = go (dec_le (suc (suc n)) (nat_abs z))
    where
      twice_n : n * 2 ≤ n * d
      twice_n = NatL.mul-le-mul_left n large

      go : Dec (suc (suc n) ≤ nat_abs z) → suc n < nat_abs z
      go (yes k) = k
      go (no k) = absurd (omega (
        arith,
        even_parity (negsuc n) (m.tie (omega
            (arith, m.half, apart z (negsuc n) d, natAbs_parts z, large, not_zero, twice_n))),
        m.half,
        apart z (negsuc n) d,
        natAbs_parts z,
        large,
        not_zero,
        twice_n,
      ))

  pub nearest_shrinks : nat_abs (nearest z d) < nat_abs z
  nearest_shrinks = shrinks (nearest z d) (nearest_is z d h)
