-- A grid of monomials: how many places a variable's exponents take, and the place of a wide key among all.
use Rattle.std.specs.Prelude.{◌≡◌, List, ℕ, zero, suc, ◌+◌, ◌*◌, ◌/◌, ◌%◌, ◌^◌, max, ◌<◌, ◌≤◌, get_or}
use Rattle.std.specs.Int.Bits.{bit_or}
use Rattle.model_keys.specs.Keys.{wide_degree}
use Rattle.product_grid_index.specs.declared.Extents.{Extents}
use Rattle.product_grid_index.specs.declared.Sides.{Sides}

-- ---- the exponents of a wide key
-- that of variable 1
abbrev pub first_of : ℕ → ℕ
first_of key = key / 2 ^ 57

-- that of variable 2
abbrev pub second_of : ℕ → ℕ
second_of key = key / 2 ^ 50 % 2 ^ 7

-- that of variable 3
abbrev pub third_of : ℕ → ℕ
third_of key = key / 2 ^ 43 % 2 ^ 7

-- that of variable 4
abbrev pub fourth_of : ℕ → ℕ
fourth_of key = key / 2 ^ 36 % 2 ^ 7

-- what follows them: the exponents of the other variables
abbrev pub others_of : ℕ → ℕ
others_of key = key % 2 ^ 36 / 2 ^ 8

-- the bits of a key that tell it from all others without other exponents
abbrev pub upper : ℕ → ℕ
upper key = key / 2 ^ 36

-- the four digits of seven bits that these are, added
abbrev pub digit_sum : ℕ → ℕ
digit_sum u = u / 2 ^ 21 + u / 2 ^ 14 % 2 ^ 7 + u / 2 ^ 7 % 2 ^ 7 + u % 2 ^ 7

-- a key that they tell, as a wide key's exponents tell its degree
pub record FourTold (key : ℕ) : Type 0 where
  pub small : key < 2 ^ 64
  pub whole : key ≡ upper key * 2 ^ 36 + digit_sum (upper key)

-- ---- the largest of each
-- none above those of e
pub record Within (e : Extents) (key : ℕ) : Type 0 where
  pub first : first_of key ≤ e.first
  pub second : second_of key ≤ e.second
  pub third : third_of key ≤ e.third
  pub fourth : fourth_of key ≤ e.fourth
  pub others : others_of key ≤ e.others

-- the larger of each and a key's, of the others all bits
unfoldable pub raised_by : (e : Extents) (key : ℕ) → Extents
raised_by e key = record {
  first = max e.first (first_of key);
  second = max e.second (second_of key);
  third = max e.third (third_of key);
  fourth = max e.fourth (fourth_of key);
  others = bit_or e.others (others_of key);
}

-- each fits four bits, and the others four times seven
pub record Low (e : Extents) : Type 0 where
  pub first : e.first < 2 ^ 4
  pub second : e.second < 2 ^ 4
  pub third : e.third < 2 ^ 4
  pub fourth : e.fourth < 2 ^ 4
  pub others : e.others < 2 ^ 28

-- of one key
pub record LowKey (key : ℕ) : Type 0 where
  pub first : first_of key < 2 ^ 4
  pub second : second_of key < 2 ^ 4
  pub third : third_of key < 2 ^ 4
  pub fourth : fourth_of key < 2 ^ 4

-- the extents of the first keys
unfoldable pub extents : (count : ℕ) (keys : List ℕ) → Extents
extents zero keys = record { first = 0; second = 0; third = 0; fourth = 0; others = 0 }
extents (suc n) keys = raised_by (extents n keys) (get_or keys n 0)

-- ---- the grid
-- for the products of terms within e and within h: a side for each variable, and the number of places, which is too
-- large for any use where there are other exponents
unfoldable pub sides_for : (e h : Extents) → Sides
sides_for e h =
    let first = e.first + h.first + 1 in
    let second = e.second + h.second + 1 in
    let third = e.third + h.third + 1 in
    let fourth = e.fourth + h.fourth + 1 in
    record {
      first = first;
      second = second;
      third = third;
      fourth = fourth;
      size = first * second * third * fourth + (e.others + h.others) * 2 ^ 24;
    }

-- no side too long
pub record Narrow (second third fourth : ℕ) : Type 0 where
  pub short_second : second < 2 ^ 8
  pub short_third : third < 2 ^ 8
  pub short_fourth : fourth < 2 ^ 8

-- the place of a key: its exponents as the digits of one number, that of variable 1 the highest
unfoldable pub place_by : (second third fourth key : ℕ) → ℕ
place_by second third fourth key =
    ((first_of key * second + second_of key) * third + third_of key) * fourth + fourth_of key

-- in a grid
abbrev pub place : (s : Sides) (key : ℕ) → ℕ
place s = place_by s.second s.third s.fourth

-- the place of a key with the key's own degree in a last byte
unfoldable pub word_by : (second third fourth key : ℕ) → ℕ
word_by second third fourth key = place_by second third fourth key * 2 ^ 8 + wide_degree key

-- in a grid
abbrev pub word : (s : Sides) (key : ℕ) → ℕ
word s = word_by s.second s.third s.fourth

-- a key in the grid
pub record Gridded (s : Sides) (key : ℕ) : Type 0 where
  pub told : FourTold key
  pub first : first_of key < s.first
  pub second : second_of key < s.second
  pub third : third_of key < s.third
  pub fourth : fourth_of key < s.fourth
  pub below : place s key < s.size
