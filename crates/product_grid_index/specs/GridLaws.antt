-- How large a grid is, the extents of more and more keys, and places stored one after the other.
use Rattle.std.specs.Prelude.{◌≡◌, refl, List, ℕ, zero, suc, ◌+◌, ◌-◌, ◌*◌, ◌^◌, max, ◌<◌, ◌≤◌, get_or}
use Rattle.std.proofs.Common.{mul-le-mul, arith}
use Rattle.std.proofs.Math.Nat.{le-max_left, le-max_right, max-le}
use Rattle.std.proofs.Math.Decide.{ℕ_discrete}
use Rattle.std.proofs.Math.Numerals.{unary_clauses}
use Rattle.std.specs.Int.Bits.{bit_or, or_lt, or_add_and}
use Rattle.std.proofs.lemmas.Nat.{and_le_l, and_le_r}
use Rattle.product_grid_index.specs.declared.Extents.{Extents}
use Rattle.product_grid_index.specs.Grid.{first_of, second_of, third_of, fourth_of, others_of, Within, raised_by}
use Rattle.product_grid_index.specs.Grid.{Low, LowKey, extents, sides_for, Narrow, place_by}

-- ---- how large they are
module _ (e h : Extents) (p : Low e) (q : Low h) where
  pub plane_fits : (e.first + h.first + 1) * (e.second + h.second + 1) ≤ 2 ^ 16
  plane_fits =
      let a : e.first + h.first + 1 ≤ 2 ^ 8 = omega (arith, p.first, q.first) in
      let b : e.second + h.second + 1 ≤ 2 ^ 8 = omega (arith, p.second, q.second) in
      mul-le-mul a b

  pub cube_fits : (e.first + h.first + 1) * (e.second + h.second + 1) * (e.third + h.third + 1) ≤ 2 ^ 24
  cube_fits =
      let a : e.third + h.third + 1 ≤ 2 ^ 8 = omega (arith, p.third, q.third) in
      mul-le-mul plane_fits a

  pub others_fit : (e.others + h.others) * 2 ^ 24 ≤ 2 ^ 53
  others_fit = omega (arith, p.others, q.others)

  pub size_fits : (e.first + h.first + 1) * (e.second + h.second + 1) * (e.third + h.third + 1)
      * (e.fourth + h.fourth + 1) ≤ 2 ^ 32
  size_fits =
      let a : e.fourth + h.fourth + 1 ≤ 2 ^ 8 = omega (arith, p.fourth, q.fourth) in
      mul-le-mul cube_fits a

  pub sides_narrow : Narrow (sides_for e h).second (sides_for e h).third (sides_for e h).fourth
  unfolding sides_for
  sides_narrow = record {
    short_second = omega (arith, p.second, q.second);
    short_third = omega (arith, p.third, q.third);
    short_fourth = omega (arith, p.fourth, q.fourth);
  }

-- a digit more
digit_fits : (n a s b : ℕ) → a ≤ n → s < 2 ^ 8 → b < 2 ^ 7 → a * s + b ≤ n * 2 ^ 8 + 2 ^ 7
digit_fits n a s b h l g =
    let k : s ≤ 2 ^ 8 = omega (arith, l) in
    let m : a * s ≤ n * 2 ^ 8 = mul-le-mul h k in
    omega (arith, m, g)

-- the way to a place
pub record Placing (a b c d x y z : ℕ) : Type 0 where
  pub line : a * x + b ≤ 2 ^ 16
  pub plane : (a * x + b) * y + c ≤ 2 ^ 25
  pub whole : ((a * x + b) * y + c) * z + d ≤ 2 ^ 34

pub placing : (a b c d x y z : ℕ) → a < 2 ^ 7 → b < 2 ^ 7 → c < 2 ^ 7 → d < 2 ^ 7 → Narrow x y z
    → Placing a b c d x y z
placing a b c d x y z ha hb hc hd w =
    let l : a * x + b ≤ 2 ^ 16 = omega (arith, digit_fits (2 ^ 7) a x b (omega arith) w.short_second hb) in
    let p : (a * x + b) * y + c ≤ 2 ^ 25 = omega (arith, digit_fits (2 ^ 16) (a * x + b) y c l w.short_third hc) in
    record {
      line = l;
      plane = p;
      whole = omega (arith, digit_fits (2 ^ 25) ((a * x + b) * y + c) z d p w.short_fourth hd);
    }

pub place_fits : (second third fourth key : ℕ) → key < 2 ^ 64 → Narrow second third fourth
    → place_by second third fourth key ≤ 2 ^ 34
unfolding place_by
place_fits second third fourth key l w =
    (placing (first_of key) (second_of key) (third_of key) (fourth_of key) second third fourth (omega (arith, l))
    (omega arith) (omega arith) (omega arith) w).whole

-- ---- one more key's exponents
max_lt : {a b k : ℕ} → a < k → b < k → max a b < k
max_lt {a} {b} {k} h l = let g : max a b ≤ k - 1 = max-le (omega arith) (omega arith) in omega arith

low_zero : Low (record { first = 0; second = 0; third = 0; fourth = 0; others = 0 })
low_zero = record {
  first = omega arith;
  second = omega arith;
  third = omega arith;
  fourth = omega arith;
  others = omega arith;
}

-- all bits of two numbers are no less than either
or_left : (a b : ℕ) → a ≤ bit_or a b
or_left a b = omega (arith, or_add_and a b, and_le_r a b)

or_right : (a b : ℕ) → b ≤ bit_or a b
or_right a b = omega (arith, or_add_and a b, and_le_l a b)

others_small : (key : ℕ) → others_of key < 2 ^ 28
others_small key = omega arith

module _ (e : Extents) (key : ℕ) where
  low_raised : Low e → LowKey key → Low (raised_by e key)
  unfolding raised_by
  low_raised h x = record {
    first = max_lt h.first x.first;
    second = max_lt h.second x.second;
    third = max_lt h.third x.third;
    fourth = max_lt h.fourth x.fourth;
    others = or_lt 28 e.others (others_of key) h.others (others_small key);
  }

  within_new : Within (raised_by e key) key
  unfolding raised_by
  within_new = record {
    first = le-max_right e.first (first_of key);
    second = le-max_right e.second (second_of key);
    third = le-max_right e.third (third_of key);
    fourth = le-max_right e.fourth (fourth_of key);
    others = or_right e.others (others_of key);
  }

  within_old : (l : ℕ) → Within e l → Within (raised_by e key) l
  unfolding raised_by
  within_old l h = record {
    first = omega (arith, h.first, le-max_left e.first (first_of key));
    second = omega (arith, h.second, le-max_left e.second (second_of key));
    third = omega (arith, h.third, le-max_left e.third (third_of key));
    fourth = omega (arith, h.fourth, le-max_left e.fourth (fourth_of key));
    others = omega (arith, h.others, or_left e.others (others_of key));
  }

-- ---- the extents of the first keys
pub extents_more : (n : ℕ) (keys : List ℕ) → extents (n + 1) keys ≡ raised_by (extents n keys) (get_or keys n 0)
unfolding extents
extents_more n keys = simp unary_clauses refl

pub extents_low : (n : ℕ) (keys : List ℕ) → ((i : ℕ) → i < n → LowKey (get_or keys i 0)) → Low (extents n keys)
unfolding extents
extents_low zero keys f = low_zero
extents_low (suc n) keys f =
    low_raised (extents n keys) (get_or keys n 0) (extents_low n keys (λ i l. f i (omega arith))) (f n (omega arith))

pub extents_within : (n : ℕ) (keys : List ℕ) (i : ℕ) → i < n → Within (extents n keys) (get_or keys i 0)
unfolding extents
extents_within zero keys i l = absurd (omega arith)
extents_within (suc n) keys i l = elim (ℕ_discrete i n) [
  | yes c ↦ rw c (within_new (extents n keys) (get_or keys n 0))
  | no c ↦ within_old (extents n keys) (get_or keys n 0) (get_or keys i 0) (extents_within n keys i (omega arith))
]
