-- The four digits of a wide key: as they are put together, added and read.
use Rattle.std.specs.Prelude.{◌≡◌, refl, List, [], ◌∷◌, ℕ, zero, suc, ◌+◌, ◌*◌, ◌/◌, ◌%◌, ◌^◌, ◌<◌, ◌≤◌, T, length}
use Rattle.std.proofs.Common.{sym, ◌∙◌, ap, ap₂, arith, lit<}
use Rattle.std.proofs.Math.Nat as NatL
use Rattle.calculus.specs.Monomial.{degree}
use Rattle.calculus.specs.Key.{encode}
use Rattle.calculus_laws.specs.KeyLaws.{below_degree, encode_lt}
use Rattle.calculus.specs.Model.{fits}
use Rattle.calculus_laws.specs.FitsLaws.{fits_length, fits_degree}
use Rattle.model_keys.specs.Keys.{wide_base, wide_width, wide_key}
use Rattle.product_grid_index.specs.Grid.{first_of, second_of, third_of, fourth_of, others_of, upper, digit_sum}
use Rattle.product_grid_index.specs.Grid.{FourTold, LowKey}

-- the first digit has nothing above it
pub first_digit : (key : ℕ) → key < 2 ^ 64 → key / 2 ^ 57 % 2 ^ 7 ≡ first_of key
first_digit key h = omega arith

-- none above the most, with their sum below them
pub record Digits (most key : ℕ) : Type 0 where
  pub a : ℕ
  pub b : ℕ
  pub c : ℕ
  pub d : ℕ
  pub low_a : a ≤ most
  pub low_b : b ≤ most
  pub low_c : c ≤ most
  pub low_d : d ≤ most
  pub is : key ≡ (((a * 2 ^ 7 + b) * 2 ^ 7 + c) * 2 ^ 7 + d) * 2 ^ 36 + (a + b + c + d)

-- of a sum
unfoldable pub digits_sum : {m n k l : ℕ} → Digits m k → Digits n l → Digits (m + n) (k + l)
digits_sum x y = record {
  a = x.a + y.a;
  b = x.b + y.b;
  c = x.c + y.c;
  d = x.d + y.d;
  low_a = omega (arith, x.low_a, y.low_a);
  low_b = omega (arith, x.low_b, y.low_b);
  low_c = omega (arith, x.low_c, y.low_c);
  low_d = omega (arith, x.low_d, y.low_d);
  is = omega (arith, x.is, y.is);
}

-- ---- of a wide key: four digits, and the exponents of the other variables
pub record Parts (most key : ℕ) : Type 0 where
  pub a : ℕ
  pub b : ℕ
  pub c : ℕ
  pub d : ℕ
  pub others : ℕ
  pub more : ℕ
  pub low : a + b + c + d + more ≤ most
  pub small : others < 2 ^ 28
  pub none : others ≡ 0 → more ≡ 0
  pub is : key
      ≡ (((a * 2 ^ 7 + b) * 2 ^ 7 + c) * 2 ^ 7 + d) * 2 ^ 36 + (others * 2 ^ 8 + (a + b + c + d + more))

-- no digit counts nothing
encode_none : (w : ℕ) (k : List ℕ) → length k ≤ w → encode wide_base w k ≡ 0 → degree k ≡ 0
unfolding encode degree
encode_none w [] l e = refl
encode_none zero (a ∷ k) l e = absurd (omega arith)
encode_none (suc w) (a ∷ k) l e =
    let p : a * 1 ≤ a * wide_base ^ w = NatL.mul-le-mul_left a (NatL.one-le-pow w wide_base (lit< tt)) in
    let r = encode_none w k (omega arith) (omega (arith, e)) in omega (arith, p, e, r)

pub wide_parts : (n m : ℕ) → n ≤ wide_width → m ≤ 127 → (k : List ℕ) → T (fits n m k) → Parts m (wide_key k)
unfolding encode degree
wide_parts n m l u k h = go k (omega (arith, fits_length n m k h)) (fits_degree n m k h)
  where
    made : (a b c d : ℕ) (key : ℕ) (k : List ℕ) → length k ≤ 4 → a + b + c + d + degree k ≤ m
        → key ≡ (((a * 2 ^ 7 + b) * 2 ^ 7 + c) * 2 ^ 7 + d) * 2 ^ 36
        + (encode wide_base 4 k * 2 ^ 8 + (a + b + c + d + degree k)) → Parts m key
    made a b c d key k l g e = record {
      a = a;
      b = b;
      c = c;
      d = d;
      others = encode wide_base 4 k;
      more = degree k;
      low = g;
      small = encode_lt wide_base (lit< tt) 4 k (below_degree wide_base k (omega arith)) l;
      none = encode_none 4 k l;
      is = e;
    }

    go : (k : List ℕ) → length k ≤ 8 → degree k ≤ m → Parts m (wide_key k)
    go [] l g = made 0 0 0 0 _ [] (omega arith) (omega arith) refl
    go (a ∷ []) l g = made a 0 0 0 _ [] (omega arith) (omega arith) (omega arith)
    go (a ∷ (b ∷ [])) l g = made a b 0 0 _ [] (omega arith) (omega arith) (omega arith)
    go (a ∷ (b ∷ (c ∷ []))) l g = made a b c 0 _ [] (omega arith) (omega arith) (omega arith)
    go (a ∷ (b ∷ (c ∷ (d ∷ k)))) l g = made a b c d _ k (omega arith) (omega arith) (omega arith)

-- ---- as they are read
by_upper : (key : ℕ)
    → (first_of key ≡ upper key / 2 ^ 21) × (second_of key ≡ upper key / 2 ^ 14 % 2 ^ 7)
    × (third_of key ≡ upper key / 2 ^ 7 % 2 ^ 7) × (fourth_of key ≡ upper key % 2 ^ 7)
by_upper key = (omega arith, omega arith, omega arith, refl)

-- one number
unfoldable pub number : (a b c d : ℕ) → ℕ
number a b c d = ((a * 2 ^ 7 + b) * 2 ^ 7 + c) * 2 ^ 7 + d

pub upper_number : (key : ℕ) → upper key ≡ number (first_of key) (second_of key) (third_of key) (fourth_of key)
unfolding number
upper_number key = omega arith

number_digits : (a b c d : ℕ) → a ≤ 127 → b ≤ 127 → c ≤ 127 → d ≤ 127
    → let u = number a b c d in
    (u < 2 ^ 28) × (u / 2 ^ 21 ≡ a) × (u / 2 ^ 14 % 2 ^ 7 ≡ b) × (u / 2 ^ 7 % 2 ^ 7 ≡ c) × (u % 2 ^ 7 ≡ d)
unfolding number
number_digits a b c d ha hb hc hd = (omega arith, omega arith, omega arith, omega arith, omega arith)

over_36 : {key w s : ℕ} → key ≡ w * 2 ^ 36 + s → s < 2 ^ 36 → upper key ≡ w
over_36 e l = omega arith

within_64 : {key w s : ℕ} → key ≡ w * 2 ^ 36 + s → s < 2 ^ 36 → w < 2 ^ 28 → key < 2 ^ 64
within_64 e l g = omega arith

module _ {m key : ℕ} (x : Digits m key) (h : m ≤ 127) where
  abbrev u : ℕ
  u = number x.a x.b x.c x.d

  whole : key ≡ u * 2 ^ 36 + (x.a + x.b + x.c + x.d)
  unfolding number
  whole = x.is

  rest : x.a + x.b + x.c + x.d < 2 ^ 36
  rest = omega (arith, x.low_a, x.low_b, x.low_c, x.low_d)

  upper_is : upper key ≡ u
  upper_is = over_36 whole rest

  reads : (u < 2 ^ 28) × (u / 2 ^ 21 ≡ x.a) × (u / 2 ^ 14 % 2 ^ 7 ≡ x.b) × (u / 2 ^ 7 % 2 ^ 7 ≡ x.c)
      × (u % 2 ^ 7 ≡ x.d)
  reads =
      number_digits x.a x.b x.c x.d (omega (arith, x.low_a)) (omega (arith, x.low_b))
      (omega (arith, x.low_c)) (omega (arith, x.low_d))

  pub read_first : first_of key ≡ x.a
  read_first = (by_upper key).0 ∙ ap (λ w. w / 2 ^ 21) upper_is ∙ reads.1

  pub read_second : second_of key ≡ x.b
  read_second = (by_upper key).1 ∙ ap (λ w. w / 2 ^ 14 % 2 ^ 7) upper_is ∙ reads.2

  pub read_third : third_of key ≡ x.c
  read_third = (by_upper key).2 ∙ ap (λ w. w / 2 ^ 7 % 2 ^ 7) upper_is ∙ reads.3

  pub read_fourth : fourth_of key ≡ x.d
  read_fourth = (by_upper key).3 ∙ ap (λ w. w % 2 ^ 7) upper_is ∙ reads.4

  pub digits_told : FourTold key
  digits_told =
      let s : digit_sum (upper key) ≡ x.a + x.b + x.c + x.d =
      ap digit_sum upper_is ∙ rw (reads.1, reads.2, reads.3, reads.4) refl in
      record {
        small = within_64 whole rest reads.0;
        whole = whole ∙ ap₂ (λ w z. w * 2 ^ 36 + z) (sym upper_is) (sym s);
      }

-- ---- any wide key
module _ {m key : ℕ} (x : Parts m key) (h : m ≤ 127) where
  abbrev tail : ℕ
  tail = x.others * 2 ^ 8 + (x.a + x.b + x.c + x.d + x.more)

  tail_small : tail < 2 ^ 36
  tail_small = omega (arith, x.small, x.low, h)

  parts_whole : key ≡ number x.a x.b x.c x.d * 2 ^ 36 + tail
  unfolding number
  parts_whole = x.is

  parts_upper : upper key ≡ number x.a x.b x.c x.d
  parts_upper = over_36 parts_whole tail_small

  others_read : (w z s key : ℕ) → key ≡ w * 2 ^ 36 + (z * 2 ^ 8 + s) → z < 2 ^ 28 → s < 2 ^ 8 → others_of key ≡ z
  others_read w z s key e l g = omega arith

  parts_others : others_of key ≡ x.others
  parts_others = others_read _ x.others _ key parts_whole x.small (omega (arith, x.low, h))

  -- without other exponents it has four digits
  pub parts_digits : others_of key ≡ 0 → Digits m key
  parts_digits e =
      let z : x.others ≡ 0 = sym parts_others ∙ e in
      let r : x.more ≡ 0 = x.none z in
      record {
        a = x.a;
        b = x.b;
        c = x.c;
        d = x.d;
        low_a = omega (arith, x.low);
        low_b = omega (arith, x.low);
        low_c = omega (arith, x.low);
        low_d = omega (arith, x.low);
        is = omega (arith, x.is, z, r);
      }

  -- each of the first four is small
  pub parts_low : m ≤ 15 → LowKey key
  parts_low l =
      let r = number_digits x.a x.b x.c x.d (omega (arith, x.low)) (omega (arith, x.low))
      (omega (arith, x.low)) (omega (arith, x.low)) in
      let u = by_upper key in
      record {
        first = omega (arith, u.0, ap (λ w. w / 2 ^ 21) parts_upper, r.1, x.low);
        second = omega (arith, u.1, ap (λ w. w / 2 ^ 14 % 2 ^ 7) parts_upper, r.2, x.low);
        third = omega (arith, u.2, ap (λ w. w / 2 ^ 7 % 2 ^ 7) parts_upper, r.3, x.low);
        fourth = omega (arith, u.3, ap (λ w. w % 2 ^ 7) parts_upper, r.4, x.low);
      }
