-- Places in a grid: in the order of the keys, one for each, and that of a product is the sum of its factors'.
use Rattle.std.specs.Prelude.{◌≡◌, ◌⊎◌, ℕ, ◌+◌, ◌*◌, ◌/◌, ◌%◌, ◌^◌, ◌<◌, ◌≤◌}
use Rattle.std.proofs.Math.Path.{sym, ap, ap₂}
use Rattle.std.proofs.Common.{◌∙◌, inl, inr, mul-le-mul_right, add-mul, arith}
use Rattle.std.proofs.Math.Decide.{dec_lt, ℕ_discrete}
use Rattle.product_grid_index.specs.declared.Extents.{Extents}
use Rattle.product_grid_index.specs.declared.Sides.{Sides}
use Rattle.product_grid_index.specs.Grid.{first_of, second_of, third_of, fourth_of, upper, digit_sum, Within, Low}
use Rattle.product_grid_index.specs.Grid.{sides_for}
use Rattle.product_grid_index.specs.Grid.{place_by, place, Gridded}
use Rattle.product_grid_index.specs.DigitLaws.{Digits, digits_sum, number, upper_number, digits_told}
use Rattle.product_grid_index.specs.DigitLaws.{read_first, read_second, read_third, read_fourth}

-- ---- numbers of two digits
digits_less : (q d p e r : ℕ) → d < r → e < r → q * r + d < p * r + e → (q < p) ⊎ ((q ≡ p) × (d < e))
digits_less q d p e r h l b = elim (dec_lt q p) [
  | yes g ↦ inl g
  | no g ↦ elim (ℕ_discrete q p) [
    | yes c ↦ let m : q * r ≡ p * r = ap (λ x. x * r) c in inr (c, omega arith)
    | no c ↦ let m : (p + 1) * r ≤ q * r = mul-le-mul_right r (omega arith) in absurd (omega (arith, add-mul p 1 r))
  ]
]

digits_same : (q d p e r : ℕ) → d < r → e < r → q * r + d ≡ p * r + e → (q ≡ p) × (d ≡ e)
digits_same q d p e r h l b = elim (ℕ_discrete q p) [
  | yes c ↦ let m : q * r ≡ p * r = ap (λ x. x * r) c in (c, omega arith)
  | no c ↦ elim (dec_lt q p) [
    | yes g ↦ let m : (q + 1) * r ≤ p * r = mul-le-mul_right r (omega arith) in absurd (omega (arith, add-mul q 1 r))
    | no g ↦ let m : (p + 1) * r ≤ q * r = mul-le-mul_right r (omega arith) in absurd (omega (arith, add-mul p 1 r))
  ]
]

pub digits_below : (q d p r : ℕ) → q < p → d < r → q * r + d < p * r
digits_below q d p r h l =
    let m : (q + 1) * r ≤ p * r = mul-le-mul_right r (omega arith) in omega (arith, add-mul q 1 r)

digits_plus : (q p d e r : ℕ) → (q + p) * r + (d + e) ≡ (q * r + d) + (p * r + e)
digits_plus q p d e r = rw (add-mul q p r) (omega arith)

-- ---- in the order of the keys
upper_less : (k l : ℕ) → upper k < upper l → k < l
upper_less k l h = omega arith

low_digit : (n : ℕ) → n % 2 ^ 7 < 2 ^ 7
low_digit n = omega arith

number_less_first : (a b c d e f g h : ℕ) → b < 2 ^ 7 → c < 2 ^ 7 → d < 2 ^ 7 → a < e → number a b c d < number e f g h
unfolding number
number_less_first a b c d e f g h hb hc hd p = omega arith

number_less_second : (a b c d e f g h : ℕ) → c < 2 ^ 7 → d < 2 ^ 7 → a ≡ e → b < f → number a b c d < number e f g h
unfolding number
number_less_second a b c d e f g h hc hd p q = omega arith

number_less_third : (a b c d e f g h : ℕ) → d < 2 ^ 7 → a ≡ e → b ≡ f → c < g → number a b c d < number e f g h
unfolding number
number_less_third a b c d e f g h hd p q r = omega arith

number_less_fourth : (a b c d e f g h : ℕ) → a ≡ e → b ≡ f → c ≡ g → d < h → number a b c d < number e f g h
unfolding number
number_less_fourth a b c d e f g h p q r t = omega arith

module _ (s : Sides) (k l : ℕ) (x : Gridded s k) (y : Gridded s l) where
  abbrev line : ℕ → ℕ
  line key = first_of key * s.second + second_of key

  abbrev plane : ℕ → ℕ
  plane key = line key * s.third + third_of key

  abbrev Less : Type 0
  Less =
      number (first_of k) (second_of k) (third_of k) (fourth_of k)
      < number (first_of l) (second_of l) (third_of l) (fourth_of l)

  by_number : Less → k < l
  by_number h = upper_less k l (omega (arith, upper_number k, upper_number l))

  pub place_less : place s k < place s l → k < l
  unfolding place_by
  place_less h = by_number (all (digits_less _ _ _ _ s.fourth x.fourth y.fourth h))
    where
      b : second_of k < 2 ^ 7
      b = low_digit (k / 2 ^ 50)

      c : third_of k < 2 ^ 7
      c = low_digit (k / 2 ^ 43)

      d : fourth_of k < 2 ^ 7
      d = low_digit (k / 2 ^ 36)

      lines : (line k < line l) ⊎ ((line k ≡ line l) × (third_of k < third_of l)) → Less
      lines (inl p) = go (digits_less _ _ _ _ s.second x.second y.second p)
        where
          go : (first_of k < first_of l) ⊎ ((first_of k ≡ first_of l) × (second_of k < second_of l)) → Less
          go (inl q) = number_less_first _ _ _ _ _ _ _ _ b c d q
          go (inr q) = number_less_second _ _ _ _ _ _ _ _ c d q.0 q.1
      lines (inr p) =
          let q = digits_same _ _ _ _ s.second x.second y.second p.0 in
          number_less_third _ _ _ _ _ _ _ _ d q.0 q.1 p.1

      all : (plane k < plane l) ⊎ ((plane k ≡ plane l) × (fourth_of k < fourth_of l)) → Less
      all (inl p) = lines (digits_less _ _ _ _ s.third x.third y.third p)
      all (inr p) =
          let q = digits_same _ _ _ _ s.third x.third y.third p.0 in
          let r = digits_same _ _ _ _ s.second x.second y.second q.0 in
          number_less_fourth _ _ _ _ _ _ _ _ r.0 r.1 q.1 p.1

  -- one for each
  pub place_apart : place s k ≡ place s l → k ≡ l
  unfolding place_by
  place_apart h =
      let p = digits_same _ _ _ _ s.fourth x.fourth y.fourth h in
      let q = digits_same _ _ _ _ s.third x.third y.third p.0 in
      let r = digits_same _ _ _ _ s.second x.second y.second q.0 in
      let u : upper k ≡ upper l =
      upper_number k ∙ rw (r.0, r.1, q.1, p.1) (sym (upper_number l)) in
      x.told.whole ∙ ap (λ w. w * 2 ^ 36 + digit_sum w) u ∙ sym y.told.whole

-- ---- of a product
module _ (e h : Extents) (low_e : Low e) (low_h : Low h) (k l : ℕ) (x : Digits 15 k) (y : Digits 15 l)
    (in_e : Within e k) (in_h : Within h l) where
  abbrev s : Sides
  s = sides_for e h

  z : Digits 30 (k + l)
  z = digits_sum x y

  plus_first : first_of (k + l) ≡ first_of k + first_of l
  unfolding z digits_sum
  plus_first = rw (read_first x (omega arith), read_first y (omega arith)) (read_first z (omega arith))

  plus_second : second_of (k + l) ≡ second_of k + second_of l
  unfolding z digits_sum
  plus_second = rw (read_second x (omega arith), read_second y (omega arith)) (read_second z (omega arith))

  plus_third : third_of (k + l) ≡ third_of k + third_of l
  unfolding z digits_sum
  plus_third = rw (read_third x (omega arith), read_third y (omega arith)) (read_third z (omega arith))

  plus_fourth : fourth_of (k + l) ≡ fourth_of k + fourth_of l
  unfolding z digits_sum
  plus_fourth = rw (read_fourth x (omega arith), read_fourth y (omega arith)) (read_fourth z (omega arith))

  pub place_plus : (second third fourth : ℕ)
      → place_by second third fourth k + place_by second third fourth l ≡ place_by second third fourth (k + l)
  unfolding place_by
  place_plus second third fourth =
      sym (
      ap₂ (λ a b. a * fourth + b)
      (ap₂ (λ a b. a * third + b)
      (ap₂ (λ a b. a * second + b) plus_first plus_second ∙ digits_plus _ _ _ _ second)
      plus_third ∙ digits_plus _ _ _ _ third)
      plus_fourth ∙ digits_plus _ _ _ _ fourth
      )

  pub product_gridded : Gridded s (k + l)
  unfolding sides_for place_by
  product_gridded =
      let first : first_of (k + l) < e.first + h.first + 1 = omega (arith, plus_first, in_e.first, in_h.first) in
      let second : second_of (k + l) < e.second + h.second + 1 =
      omega (arith, plus_second, in_e.second, in_h.second) in
      let third : third_of (k + l) < e.third + h.third + 1 = omega (arith, plus_third, in_e.third, in_h.third) in
      let fourth : fourth_of (k + l) < e.fourth + h.fourth + 1 =
      omega (arith, plus_fourth, in_e.fourth, in_h.fourth) in
      record {
        told = digits_told z (omega arith);
        first = first;
        second = second;
        third = third;
        fourth = fourth;
        below = let b = digits_below _ _ _ _ (digits_below _ _ _ _ (digits_below _ _ _ _ first second) third) fourth in
            omega (arith, b);
      }
