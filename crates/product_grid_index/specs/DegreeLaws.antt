-- The largest degree of more and more keys, and that of a product.
use Rattle.std.specs.Prelude.{◌≡◌, List, ℕ, ◌+◌, ◌*◌, ◌/◌, ◌%◌, ◌^◌, max, ◌<◌, ◌≤◌, get_or}
use Rattle.std.proofs.Math.Nat.{le-max_left, le-max_right, max-le}
use Rattle.std.proofs.Math.Decide.{ℕ_discrete}
use Rattle.std.proofs.Common.{arith}
use Rattle.model_keys.specs.Keys.{wide_degree}
use Rattle.product_grid_index.specs.Grid.{place_by, word_by}
use Rattle.product_grid_index.specs.Degrees.{TopDegree}
use Rattle.product_grid_index.specs.DigitLaws.{Digits, digits_sum}

-- ---- a degree is a byte
pub degree_byte : (key : ℕ) → wide_degree key < 2 ^ 8
unfolding wide_degree
degree_byte key = omega arith

pub top_byte : {keys : List ℕ} {count most : ℕ} → TopDegree keys count most → most < 2 ^ 8
top_byte {keys} h =
    let l = h.least 255 (λ i g. let b = degree_byte (get_or keys i 0) in omega arith) in omega arith

-- ---- the largest
pub top_none : (keys : List ℕ) → TopDegree keys 0 0
top_none keys = record { each = λ i h. absurd (omega arith); least = λ b f. omega arith }

pub top_more : (keys : List ℕ) (i most degree : ℕ) → TopDegree keys i most → degree ≡ wide_degree (get_or keys i 0)
    → TopDegree keys (i + 1) (max most degree)
top_more keys i most degree h e = record {
  each = λ j l. elim (ℕ_discrete j i) [
    | yes c ↦ rw c (omega (arith, e, le-max_right most degree))
    | no c ↦ omega (arith, h.each j (omega arith), le-max_left most degree)
  ];
  least = λ b f. max-le (h.least b (λ j l. f j (omega arith))) (omega (arith, e, f i (omega arith)));
}

-- ---- the degree of a key that has digits is their sum
last_byte : (key w s : ℕ) → key ≡ w * 2 ^ 36 + s → s ≤ 60 → key % 256 ≡ s
last_byte key w s e h = omega arith

module _ {k : ℕ} (x : Digits 15 k) where
  low : x.a + x.b + x.c + x.d ≤ 60
  low = omega (arith, x.low_a, x.low_b, x.low_c, x.low_d)

  by_digits : wide_degree k ≡ x.a + x.b + x.c + x.d
  unfolding wide_degree
  by_digits = last_byte k (((x.a * 2 ^ 7 + x.b) * 2 ^ 7 + x.c) * 2 ^ 7 + x.d) _ x.is low

  pub degree_most : wide_degree k ≤ 60
  degree_most = rw by_digits low

-- of a product
pub degree_plus : {k l : ℕ} (x : Digits 15 k) (y : Digits 15 l)
    → (let z = digits_sum x y in z.a + z.b + z.c + z.d) ≡ wide_degree k + wide_degree l
unfolding digits_sum
degree_plus x y = omega (arith, by_digits x, by_digits y)

pub degree_sum : {k l : ℕ} → Digits 15 k → Digits 15 l → wide_degree (k + l) ≡ wide_degree k + wide_degree l
degree_sum {k} {l} x y = bytes_sum (degree_most x) (degree_most y)
  where
    bytes_sum : wide_degree k ≤ 60 → wide_degree l ≤ 60 → wide_degree (k + l) ≡ wide_degree k + wide_degree l
    bytes_sum h g = unfold wide_degree in omega (arith, h, g)

-- a word in its two parts
pub word_place : (second third fourth key : ℕ)
    → word_by second third fourth key / 2 ^ 8 ≡ place_by second third fourth key
unfolding word_by wide_degree
word_place second third fourth key = omega arith

pub word_degree : (second third fourth key : ℕ) → word_by second third fourth key % 2 ^ 8 ≡ wide_degree key
unfolding word_by wide_degree
word_degree second third fourth key = omega arith

-- of a product
pub word_plus : (second third fourth : ℕ) {k l : ℕ} → Digits 15 k → Digits 15 l
    → place_by second third fourth k + place_by second third fourth l ≡ place_by second third fourth (k + l)
    → word_by second third fourth k + word_by second third fourth l ≡ word_by second third fourth (k + l)
unfolding word_by
word_plus second third fourth x y e = omega (arith, e, degree_sum x y)
