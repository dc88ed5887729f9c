-- What an order keeps of the sums in a grid: in which order they are looked at, and what is asked.
use Rattle.std.specs.Prelude.{◌≡◌, List, [], ◌∷◌, ℕ, ◌+◌, ◌-◌, ◌*◌, ◌%◌, ◌^◌, min, ◌<◌, ◌≤◌, ℤ, pos, length, get_or}
use Rattle.calculus.specs.Terms.{Terms, size}
use Rattle.product_sums.specs.TermArrays.{at_key}
use Rattle.product_rising.specs.Rising.{in_turn}

-- ---- the sums in a grid, variable by variable
-- how many exponents there are on a side that leave the degree at most so much
unfoldable pub steps_within : (side left : ℕ) → ℕ
steps_within side left = min side (left + 1)

-- what one more exponent of variable 1 adds to a wide key without its degree
abbrev pub first_step : ℕ
first_step = 2 ^ 57

-- and of variable 2
abbrev pub second_step : ℕ
second_step = 2 ^ 50

-- and of variable 3
abbrev pub third_step : ℕ
third_step = 2 ^ 43

-- and of variable 4
abbrev pub fourth_step : ℕ
fourth_step = 2 ^ 36

-- n exponents of variable 4: the sum at each place, at the key with the degree that stands there
abbrev pub row_terms : (sums : List ℤ) (degrees : List ℕ) (at n key : ℕ) → Terms
row_terms sums degrees at n key =
    in_turn (λ i.
    at_key (key + fourth_step * i + get_or degrees (at + i) 0) (get_or sums (at + i) (pos 0)) ∷ []) n

-- the rows of n exponents of variable 3
abbrev pub line_terms : (sums : List ℤ) (degrees : List ℕ) (fourth at n key left : ℕ) → Terms
line_terms sums degrees fourth at n key left =
    in_turn (λ i. row_terms sums degrees ((at + i) * fourth) (steps_within fourth (left - i)) (key + third_step * i)) n

-- the lines of n exponents of variable 2
abbrev pub plane_terms : (sums : List ℤ) (degrees : List ℕ) (third fourth at n key left : ℕ) → Terms
plane_terms sums degrees third fourth at n key left =
    in_turn (λ i.
    line_terms sums degrees fourth ((at + i) * third) (steps_within third (left - i)) (key + second_step * i)
    (left - i)) n

-- all of degree at most `most`
abbrev pub grid_terms : (sums : List ℤ) (degrees : List ℕ) (first second third fourth most : ℕ) → Terms
grid_terms sums degrees first second third fourth most =
    in_turn (λ i.
    plane_terms sums degrees third fourth (i * second) (steps_within second (most - i)) (first_step * i) (most - i))
    (steps_within first most)

-- ---- what is asked
-- a key without its degree
abbrev pub Bare : ℕ → Type 0
Bare key = key % 2 ^ 8 ≡ 0

pub record RowReady (sums : List ℤ) (degrees : List ℕ) (at n key : ℕ) : Type 0 where
  pub places : at + n ≤ length sums
  pub marks : at + n ≤ length degrees
  pub bare : Bare key
  pub keys : key + fourth_step * n < 2 ^ 64
  pub small : size (row_terms sums degrees at n key) < 2 ^ 63

pub record LineReady (sums : List ℤ) (degrees : List ℕ) (fourth at n key left : ℕ) : Type 0 where
  pub places : (at + n) * fourth ≤ length sums
  pub below : at + n ≤ 2 ^ 24
  pub marks : (at + n) * fourth ≤ length degrees
  pub bare : Bare key
  pub keys : key + third_step * n < 2 ^ 64
  pub few : n ≤ left + 1
  pub low : left < 127
  pub small : size (line_terms sums degrees fourth at n key left) < 2 ^ 63

pub record PlaneReady (sums : List ℤ) (degrees : List ℕ) (third fourth at n key left : ℕ) : Type 0 where
  pub places : (at + n) * third * fourth ≤ length sums
  pub below : at + n ≤ 2 ^ 16
  pub short_third : third ≤ 2 ^ 8
  pub marks : (at + n) * third * fourth ≤ length degrees
  pub bare : Bare key
  pub keys : key + second_step * n < 2 ^ 64
  pub few : n ≤ left + 1
  pub low : left < 127
  pub small : size (plane_terms sums degrees third fourth at n key left) < 2 ^ 63

pub record ScanReady (sums : List ℤ) (degrees : List ℕ) (first second third fourth most : ℕ) : Type 0 where
  pub places : first * second * third * fourth ≤ length sums
  pub marks : first * second * third * fourth ≤ length degrees
  pub short_second : second ≤ 2 ^ 8
  pub short_third : third ≤ 2 ^ 8
  pub low : most < 127
  pub small : size (grid_terms sums degrees first second third fourth most) < 2 ^ 63
