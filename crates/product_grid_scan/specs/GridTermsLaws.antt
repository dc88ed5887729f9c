-- What the walks over a grid ask of each other.
use Rattle.std.specs.Prelude.{◌≡◌, List, ℕ, ◌+◌, ◌-◌, ◌*◌, ◌^◌, ◌<◌, ◌≤◌, ℤ}
use Rattle.std.proofs.Common.{sym, mul-le-mul, mul-le-mul_right, add-mul, arith}
use Rattle.std.proofs.Math.Nat.{min-le_left, min-le_right, min-eq_left, min-eq_right}
use Rattle.std.proofs.Math.Decide.{dec_lt}
use Rattle.model_keys.specs.Keys.{wide_degree}
use Rattle.product_rising.specs.RisingLaws.{size_in_turn_step}
use Rattle.product_grid_scan.specs.GridTerms.{steps_within, first_step, second_step, third_step, Bare}
use Rattle.product_grid_scan.specs.GridTerms.{row_terms, line_terms, plane_terms, RowReady, LineReady}
use Rattle.product_grid_scan.specs.GridTerms.{PlaneReady, ScanReady}

-- ---- a key without its degree, and a degree
pub byte_fits : (degree : ℕ) → degree < 2 ^ 8 → degree < 2 ^ 64
byte_fits degree l = omega arith

pub own_degree : (key degree : ℕ) → Bare key → degree < 2 ^ 8 → wide_degree (key + degree) ≡ degree
unfolding wide_degree
own_degree key degree b l = omega arith

pub own_key : (key degree : ℕ) → Bare key → key < 2 ^ 64 → degree < 2 ^ 8 → key + degree < 2 ^ 64
own_key key degree b h l = omega arith

-- ---- steps
pub steps_side : (side left : ℕ) → steps_within side left ≤ side
unfolding steps_within
steps_side side left = min-le_left side (left + 1)

pub steps_left : (side left : ℕ) → steps_within side left ≤ left + 1
unfolding steps_within
steps_left side left = min-le_right side (left + 1)

pub steps_short : (side left : ℕ) → left < side → left + 1 ≡ steps_within side left
unfolding steps_within
steps_short side left h = sym (min-eq_right (omega arith))

pub steps_whole : (side left : ℕ) → side ≤ left → side ≡ steps_within side left
unfolding steps_within
steps_whole side left h = sym (min-eq_left (omega arith))

pub steps_more : (side left i : ℕ) → i < side → i ≤ left → i < steps_within side left
steps_more side left i h l = elim (dec_lt left side) [
  | yes c ↦ omega (arith, steps_short side left c)
  | no c ↦ omega (arith, steps_whole side left (omega arith))
]

-- places before the next one of a wider side
next_side : (a m n side : ℕ) → a < n → m ≤ side → a * side + m ≤ n * side
next_side a m n side h l =
    let k : (a + 1) * side ≤ n * side = mul-le-mul_right side (omega arith) in omega (arith, add-mul a 1 side)

-- of a line
module _ (sums : List ℤ) (degrees : List ℕ) (fourth at n key left : ℕ)
    (h : LineReady sums degrees fourth at n key left) (i : ℕ) (iteration : i < n) where
  pub row_ready : RowReady sums degrees ((at + i) * fourth) (steps_within fourth (left - i)) (key + third_step * i)
  row_ready =
      let m = steps_within fourth (left - i) in
      let few : m ≤ left - i + 1 = steps_left fourth (left - i) in
      let next : (at + i) * fourth + m ≤ (at + n) * fourth =
      next_side (at + i) m (at + n) fourth (omega arith) (steps_side fourth (left - i)) in
      record {
        places = omega (arith, next, h.places);
        marks = omega (arith, next, h.marks);
        bare = omega (arith, h.bare);
        keys = omega (arith, few, h.keys, h.low, iteration);
        small =
            omega (
              arith,
              size_in_turn_step (λ j.
                  row_terms sums degrees ((at + j) * fourth) (steps_within fourth (left - j))
                  (key + third_step * j)) i n iteration,
              h.small,
            );
      }

-- of a plane
module _ (sums : List ℤ) (degrees : List ℕ) (third fourth at n key left : ℕ)
    (h : PlaneReady sums degrees third fourth at n key left) (i : ℕ) (iteration : i < n) where
  pub line_ready : LineReady sums degrees fourth ((at + i) * third) (steps_within third (left - i))
      (key + second_step * i) (left - i)
  line_ready =
      let m = steps_within third (left - i) in
      let few : m ≤ left - i + 1 = steps_left third (left - i) in
      let next : (at + i) * third + m ≤ (at + n) * third =
      next_side (at + i) m (at + n) third (omega arith) (steps_side third (left - i)) in
      let inside : ((at + i) * third + m) * fourth ≤ (at + n) * third * fourth = mul-le-mul_right fourth next in
      let short : (at + n) * third ≤ 2 ^ 16 * 2 ^ 8 = mul-le-mul h.below h.short_third in
      record {
        places = omega (arith, inside, h.places);
        marks = omega (arith, inside, h.marks);
        bare = omega (arith, h.bare);
        below = omega (arith, next, short);
        keys = omega (arith, few, h.keys, h.low, iteration);
        few = few;
        low = omega (arith, h.low);
        small =
            omega (
              arith,
              size_in_turn_step (λ j.
                  line_terms sums degrees fourth ((at + j) * third) (steps_within third (left - j))
                  (key + second_step * j) (left - j)) i n iteration,
              h.small,
            );
      }

-- of a grid
module _ (sums : List ℤ) (degrees : List ℕ) (first second third fourth most : ℕ)
    (h : ScanReady sums degrees first second third fourth most) (i : ℕ) (iteration : i < steps_within first most) where
  pub plane_ready : PlaneReady sums degrees third fourth (i * second) (steps_within second (most - i)) (first_step * i)
      (most - i)
  plane_ready =
      let m = steps_within second (most - i) in
      let few : m ≤ most - i + 1 = steps_left second (most - i) in
      let last : i ≤ most = omega (arith, iteration, steps_left first most) in
      let next : i * second + m ≤ first * second =
      next_side i m first second (omega (arith, iteration, steps_side first most)) (steps_side second (most - i)) in
      let near : i * second + m ≤ 2 ^ 7 * second =
      next_side i m (2 ^ 7) second (omega (arith, last, h.low)) (steps_side second (most - i)) in
      let inside : (i * second + m) * third * fourth ≤ first * second * third * fourth =
      mul-le-mul_right fourth (mul-le-mul_right third next) in
      record {
        places = omega (arith, inside, h.places);
        marks = omega (arith, inside, h.marks);
        bare = omega arith;
        below = omega (arith, near, h.short_second);
        short_third = h.short_third;
        keys = omega (arith, few, last, h.low);
        few = few;
        low = omega (arith, h.low);
        small =
            omega (
              arith,
              size_in_turn_step (λ j.
                  plane_terms sums degrees third fourth (j * second) (steps_within second (most - j)) (first_step * j)
                  (most - j)) i (steps_within first most) iteration,
              h.small,
            );
      }
