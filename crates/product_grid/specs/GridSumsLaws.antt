-- The sums in a grid, in the order of their keys, are the sums of all terms that were added.
use Rattle.std.specs.Prelude.{◌≡◌, refl, ◌⊎◌, Bool, true, false, not, ℕ, zero, suc, ◌+◌, ◌-◌, ◌*◌, ◌^◌, ◌<◌, ◌≤◌, T, ℤ, pos, ◌+ℤ◌, ◌*ℤ◌, get_or}
use Rattle.std.proofs.Math.Path.{sym}
use Rattle.std.proofs.Common.{◌∙◌, ap, ap₂, inl, inr, arith}
use mathlib.Core.List.{List, [], ◌∷◌}
use Rattle.std.proofs.Math.IntN.{+ℤ_idl, +ℤ_idr}
use Rattle.algebra.specs.Lexicographic.{same}
use Rattle.algebra.specs.LexicographicLaws.{same_ok}
use Rattle.algebra.specs.IntegerRing.{ℤR}
use Rattle.polynomial.specs.Polynomial.{add_exponents, times, product}
use Rattle.calculus.specs.Terms.{Terms, size, rising, absent, distinct}
use Rattle.calculus_laws.specs.TestLaws.{and_left, and_right}
use Rattle.calculus_laws.specs.TermsLaws.{every_nil, every_cons}
use Rattle.calculus_laws.specs.CanonicalLaws.{coefficient_at, SameCoefficients, coefficient_nil, coefficient_cons}
use Rattle.calculus_laws.specs.CanonicalLaws.{share, share_here, share_elsewhere, absent_zero, rising_distinct}
use Rattle.calculus_laws.specs.ProductLaws.{size_same}
use Rattle.model_keys.specs.Keys.{wide_degree}
use Rattle.product_sums.specs.TermArrays.{at_key, terms}
use Rattle.product_sums.specs.ProductSums.{accumulated_all}
use Rattle.product_sums.specs.AccumulatedAllLaws.{distinct_accumulated_all, coefficient_accumulated_all}
use Rattle.product_sums.specs.AccumulatedAllLaws.{size_accumulated_all}
use Rattle.product_sums.specs.ProductsLaws.{size_nil}
use Rattle.product_grid_index.specs.declared.Sides.{Sides}
use Rattle.product_grid_index.specs.Grid.{place, Gridded}
use Rattle.product_grid_index.specs.DigitLaws.{Digits, read_first, read_second, read_third, read_fourth}
use Rattle.product_grid_index.specs.GridDigitLaws.{digits_place, digits_gridded}
use Rattle.product_grid_fill.specs.Filling.{SummedUp}
use Rattle.product_grid_scan.specs.GridTerms.{grid_terms}
use Rattle.product_grid_scan.specs.GridTermsLaws.{steps_side, steps_left, steps_more}
use Rattle.product_grid.specs.GridWalkLaws.{Keyed, none, more, keyed_append, among_absent, Seen, key_of}
use Rattle.product_grid.specs.GridWalkLaws.{grid_rises, grid_keyed, grid_among}

-- ---- a list in which each monomial stands once, with the coefficient that a rule gives it
given : (f : List ℕ → ℤ) (p : Terms) → Keyed (λ x z. z ≡ f (x ∷ [])) p → T (distinct p) → (k : List ℕ)
    → (coefficient_at p k ≡ f k) ⊎ T (absent k p)
unfolding distinct
given f _ none h k = inr (unfold absent in every_nil _)
given f _ (more x z p e a) h k =
    go (same k (x ∷ [])) (same_ok k (x ∷ [])) (share_here k (at_key x z)) (share_elsewhere k (at_key x z)) (λ n. n)
    (given f p a (and_right (absent (x ∷ []) p) _ h) k)
  where
    apart : T (absent (x ∷ []) p)
    apart = and_left (absent (x ∷ []) p) _ h

    go : (b : Bool) → (T b → k ≡ x ∷ []) → (T b → share k (at_key x z) ≡ z)
        → (T (not b) → share k (at_key x z) ≡ pos 0) → (T (not b) → T (not (same k (x ∷ []))))
        → (coefficient_at p k ≡ f k) ⊎ T (absent k p)
        → (coefficient_at (at_key x z ∷ p) k ≡ f k) ⊎ T (absent k (at_key x z ∷ p))
    go true w s n c r =
        inl (coefficient_cons k (at_key x z) p
        ∙ ap₂ ◌+ℤ◌ (s tt) (absent_zero k p (rw (w tt) apart))
        ∙ +ℤ_idr z
        ∙ e
        ∙ ap f (sym (w tt)))
    go false w s n c (inl r) =
        inl (coefficient_cons k (at_key x z) p ∙ ap₂ ◌+ℤ◌ (n tt) r ∙ +ℤ_idl (f k))
    go false w s n c (inr r) = inr (unfold absent in every_cons _ (at_key x z) p (c tt) r)

-- ---- the products of two lists of terms
-- a key in the grid of degree at most so much
pub record Reached (s : Sides) (most x : ℕ) : Type 0 where
  pub gridded : Gridded s x
  pub digits : Digits 30 x
  pub low : digits.a + digits.b + digits.c + digits.d ≤ most

keyed_times : (P : ℕ → ℤ → Type 0) (key : ℕ) (c : ℤ) (n : ℕ) (kb : List ℕ) (cb : List ℤ)
    → ((j : ℕ) (z : ℤ) → j < n → P (key + get_or kb j 0) z) → Keyed P (times ℤR (at_key key c) (terms n kb cb))
unfolding terms times add_exponents
keyed_times P key c zero kb cb f = none
keyed_times P key c (suc n) [] cb f = none
keyed_times P key c (suc n) (x ∷ kb) [] f = none
keyed_times P key c (suc n) (x ∷ kb) (z ∷ cb) f =
    more (key + x) (c *ℤ z) _ (f 0 _ (omega arith)) (keyed_times P key c n kb cb (λ j y l. f (suc j) y (omega arith)))

pub keyed_products : (P : ℕ → ℤ → Type 0) (m n : ℕ) (ka : List ℕ) (ca : List ℤ) (kb : List ℕ) (cb : List ℤ)
    → ((i j : ℕ) (z : ℤ) → i < m → j < n → P (get_or ka i 0 + get_or kb j 0) z)
    → Keyed P (product ℤR (terms m ka ca) (terms n kb cb))
unfolding terms product
keyed_products P zero n ka ca kb cb f = none
keyed_products P (suc m) n [] ca kb cb f = none
keyed_products P (suc m) n (x ∷ ka) [] kb cb f = none
keyed_products P (suc m) n (x ∷ ka) (z ∷ ca) kb cb f =
    keyed_append P _ _ (keyed_times P x z n kb cb (λ j y l. f 0 j y (omega arith) l))
    (keyed_products P m n ka ca kb cb (λ i j y h l. f (suc i) j y (omega arith) l))

-- a monomial stands among them as such a key, or nowhere
data Standing (s : Sides) (most : ℕ) (k : List ℕ) (p : Terms) : Type 0 where
  here : (x : ℕ) → Reached s most x → k ≡ x ∷ [] → Standing s most k p
  nowhere : T (absent k p) → Standing s most k p

standing : (s : Sides) (most : ℕ) (k : List ℕ) (p : Terms) → Keyed (λ x z. Reached s most x) p → Standing s most k p
standing s most k _ none = nowhere (unfold absent in every_nil _)
standing s most k _ (more x z p g a) =
    go (same k (x ∷ [])) (same_ok k (x ∷ [])) (λ n. n) (standing s most k p a)
  where
    go : (b : Bool) → (T b → k ≡ x ∷ []) → (T (not b) → T (not (same k (x ∷ [])))) → Standing s most k p
        → Standing s most k (at_key x z ∷ p)
    go true f n r = here x g (f tt)
    go false f n (here y h e) = here y h e
    go false f n (nowhere h) = nowhere (unfold absent in every_cons _ (at_key x z) p (n tt) h)

-- ---- keys and exponents
-- exponents with the key of their monomial
abbrev full : (a b c d : ℕ) → ℕ
full a b c d = key_of a b c d + (a + b + c + d)

-- a key is that of its digits
digits_key : (key a b c d : ℕ) → key ≡ (((a * 2 ^ 7 + b) * 2 ^ 7 + c) * 2 ^ 7 + d) * 2 ^ 36 + (a + b + c + d)
    → key ≡ full a b c d
digits_key key a b c d e = omega (arith, e)

key_digits : (a b c d : ℕ)
    → full a b c d ≡ (((a * 2 ^ 7 + b) * 2 ^ 7 + c) * 2 ^ 7 + d) * 2 ^ 36 + (a + b + c + d)
key_digits a b c d = omega arith

last_byte : (w t : ℕ) → t < 2 ^ 8 → wide_degree (w * 2 ^ 36 + t) ≡ t
unfolding wide_degree
last_byte w t l = omega arith

-- with whatever degree, it has the exponents of one monomial only
same_exponents : (a b c d e f g h x y : ℕ) → x < 2 ^ 8 → y < 2 ^ 8 → f ≤ 30 → g ≤ 30 → h ≤ 30
    → b ≤ 126 → c ≤ 126 → d ≤ 126
    → key_of a b c d + x ≡ key_of e f g h + y → (a ≡ e) × (b ≡ f) × (c ≡ g) × (d ≡ h)
same_exponents a b c d e f g h x y lx ly lf lg lh lb lc ld q = (omega arith, omega arith, omega arith, omega arith)

module _ (s : Sides) (whole : s.first * s.second * s.third * s.fourth ≤ s.size) (most : ℕ) (low : most < 127) where
  -- those that are looked at are in the grid
  module _ (a b c d : ℕ) (v : Seen s.first s.second s.third s.fourth most a b c d) where
    seen_digits : Digits 126 (full a b c d)
    seen_digits = record {
      a = a;
      b = b;
      c = c;
      d = d;
      low_a = omega (arith, v.in_first, steps_left s.first most);
      low_b = omega (arith, v.in_second, steps_left s.second (most - a));
      low_c = omega (arith, v.in_third, steps_left s.third (most - a - b));
      low_d = omega (arith, v.in_fourth, steps_left s.fourth (most - a - b - c));
      is = key_digits a b c d;
    }

    seen_gridded : Gridded s (full a b c d)
    unfolding seen_digits
    seen_gridded =
        digits_gridded seen_digits (omega arith) s whole (omega (arith, v.in_first, steps_side s.first most))
        (omega (arith, v.in_second, steps_side s.second (most - a)))
        (omega (arith, v.in_third, steps_side s.third (most - a - b)))
        (omega (arith, v.in_fourth, steps_side s.fourth (most - a - b - c)))

    seen_low_b : b ≤ 126
    unfolding seen_digits
    seen_low_b = seen_digits.low_b

    seen_low_c : c ≤ 126
    unfolding seen_digits
    seen_low_c = seen_digits.low_c

    seen_low_d : d ≤ 126
    unfolding seen_digits
    seen_low_d = seen_digits.low_d

    -- their degree is at most the most, so that a byte holds it
    seen_low : a + b + c + d < 2 ^ 8
    seen_low =
        omega (
          arith,
          low,
          v.in_first,
          v.in_second,
          v.in_third,
          v.in_fourth,
          steps_left s.first most,
          steps_left s.second (most - a),
          steps_left s.third (most - a - b),
          steps_left s.fourth (most - a - b - c),
        )

    seen_degree : wide_degree (full a b c d) ≡ a + b + c + d
    seen_degree =
        ap wide_degree (key_digits a b c d)
        ∙ last_byte (((a * 2 ^ 7 + b) * 2 ^ 7 + c) * 2 ^ 7 + d) (a + b + c + d) seen_low

    seen_place : place s (full a b c d) ≡ ((a * s.second + b) * s.third + c) * s.fourth + d
    unfolding seen_digits
    seen_place = digits_place seen_digits (omega arith) s.second s.third s.fourth

  -- and what is in the grid, of that degree, is looked at
  module _ (x : ℕ) (r : Reached s most x) where
    abbrev z : Digits 30 x
    z = r.digits

    reached_seen : Seen s.first s.second s.third s.fourth most z.a z.b z.c z.d
    reached_seen =
        let g = r.gridded in
        let l = r.low in
        let h : 30 ≤ 127 = omega arith in
        record {
          in_first = steps_more _ _ _ (omega (arith, read_first z h, g.first)) (omega (arith, l));
          in_second = steps_more _ _ _ (omega (arith, read_second z h, g.second)) (omega (arith, l));
          in_third = steps_more _ _ _ (omega (arith, read_third z h, g.third)) (omega (arith, l));
          in_fourth = steps_more _ _ _ (omega (arith, read_fourth z h, g.fourth)) (omega (arith, l));
        }

-- ---- the sums in a grid
module _ (s : Sides) (p : Terms) (sums : List ℤ) (degrees : List ℕ) (h : SummedUp s p sums degrees)
    (whole : s.first * s.second * s.third * s.fourth ≤ s.size) (most : ℕ) (low : most < 127)
    (all : Keyed (λ x z. Reached s most x) p) where
  abbrev zs : Terms
  zs = grid_terms sums degrees s.first s.second s.third s.fourth most

  pub sums_rising : T (rising (grid_terms sums degrees s.first s.second s.third s.fourth most))
  sums_rising = grid_rises sums degrees h.marked.short s.first s.second s.third s.fourth most low

  -- each has the coefficient of its monomial
  module _ (a b c d : ℕ) (v : Seen s.first s.second s.third s.fourth most a b c d) where
    abbrev at : ℕ
    at = ((a * s.second + b) * s.third + c) * s.fourth + d

    abbrev key : ℕ
    key = full a b c d

    there : place s (full a b c d) ≡ at
    there = seen_place s whole most low a b c d v

    sum_there : get_or sums at (pos 0) ≡ coefficient_at p (key ∷ [])
    sum_there =
        ap (λ i. get_or sums i (pos 0)) (sym there) ∙ h.sum key (seen_gridded s whole most low a b c d v)

    own_degree : wide_degree key ≡ a + b + c + d
    own_degree = seen_degree s whole most low a b c d v

    -- a key of these exponents with another degree is no product's
    other : (x : ℕ) → x ≡ key_of a b c d + get_or degrees at 0 → get_or sums at (pos 0) ≡ pos 0
        → Standing s most (x ∷ []) p → coefficient_at p (x ∷ []) ≡ pos 0
    other x e z (nowhere n) = absent_zero (x ∷ []) p n
    other x e z (here y r f) =
        let w : x ≡ y = cc in
        let g = r.digits in
        let q : key_of a b c d + get_or degrees at 0 ≡ full g.a g.b g.c g.d =
        sym e ∙ w ∙ digits_key y _ _ _ _ g.is in
        let m : (a ≡ g.a) × (b ≡ g.b) × (c ≡ g.c) × (d ≡ g.d) =
        same_exponents a b c d g.a g.b g.c g.d (get_or degrees at 0) (g.a + g.b + g.c + g.d)
        (h.marked.short at) (omega (arith, g.low_a, g.low_b, g.low_c, g.low_d)) g.low_b g.low_c g.low_d
        (seen_low_b s whole most low a b c d v) (seen_low_c s whole most low a b c d v)
        (seen_low_d s whole most low a b c d v) q in
        let u : x ≡ key = omega (arith, e, q, m) in
        ap (λ i. coefficient_at p (i ∷ [])) u ∙ sym sum_there ∙ z

    given_there : get_or sums at (pos 0) ≡ coefficient_at p ((key_of a b c d + get_or degrees at 0) ∷ [])
    given_there = go (h.marked.told key (seen_gridded s whole most low a b c d v))
      where
        go : (get_or sums (place s key) (pos 0) ≡ pos 0) ⊎ (get_or degrees (place s key) 0 ≡ wide_degree key)
            → get_or sums at (pos 0) ≡ coefficient_at p ((key_of a b c d + get_or degrees at 0) ∷ [])
        go (inl z) =
            let w : get_or sums at (pos 0) ≡ pos 0 = rw there at z in
            w ∙ sym (other (key_of a b c d + get_or degrees at 0) refl w (standing s most _ p all))
        go (inr e) =
            let w : get_or degrees at 0 ≡ a + b + c + d = rw there at e ∙ own_degree in
            sum_there ∙ ap (λ i. coefficient_at p ((key_of a b c d + i) ∷ [])) (sym w)

  sums_given : Keyed (λ x z. z ≡ coefficient_at p (x ∷ [])) zs
  sums_given =
      grid_keyed sums degrees s.first s.second s.third s.fourth most
      (λ x z. z ≡ coefficient_at p (x ∷ [])) given_there

  -- and none of the terms is left out
  module _ (x : ℕ) (r : Reached s most x) where
    abbrev g : Digits 30 x
    g = r.digits

    seen : Seen s.first s.second s.third s.fourth most r.digits.a r.digits.b r.digits.c
        r.digits.d
    seen = reached_seen s whole most low x r

    is : x ≡ full r.digits.a r.digits.b r.digits.c r.digits.d
    is = digits_key x _ _ _ _ g.is

    standing_seen : T (absent (x ∷ []) zs) → coefficient_at p (x ∷ []) ≡ pos 0
    standing_seen n = go (h.marked.told x r.gridded)
      where
        go : (get_or sums (place s x) (pos 0) ≡ pos 0) ⊎ (get_or degrees (place s x) 0 ≡ wide_degree x)
            → coefficient_at p (x ∷ []) ≡ pos 0
        go (inl z) = sym (h.sum x r.gridded) ∙ z
        go (inr m) =
            let w : get_or degrees (at g.a g.b g.c g.d seen) 0 ≡ g.a + g.b + g.c + g.d =
            ap (λ i. get_or degrees i 0) (sym (there _ _ _ _ seen) ∙ ap (place s) (sym is))
            ∙ m
            ∙ ap wide_degree is
            ∙ own_degree _ _ _ _ seen in
            absurd (among_absent (x ∷ []) zs
            (grid_among sums degrees s.first s.second s.third s.fourth most x _ _ _ _ seen
            (omega (arith, is, w)))
            n)

  all_seen : (k : List ℕ) → T (absent k zs) → coefficient_at p k ≡ pos 0
  all_seen k n = go (standing s most k p all)
    where
      go : Standing s most k p → coefficient_at p k ≡ pos 0
      go (nowhere a) = absent_zero k p a
      go (here x r e) = ap (coefficient_at p) e ∙ standing_seen x r (rw e at n)

  pub sums_coefficients : SameCoefficients
      (grid_terms sums degrees s.first s.second s.third s.fourth most) p
  sums_coefficients k = go (given (coefficient_at p) zs sums_given (rising_distinct zs sums_rising) k)
    where
      go : (coefficient_at zs k ≡ coefficient_at p k) ⊎ T (absent k zs) → coefficient_at zs k ≡ coefficient_at p k
      go (inl e) = e
      go (inr n) = absent_zero k zs n ∙ sym (all_seen k n)

  -- ---- beside the same sums in order of first occurrence
  abbrev ws : Terms
  ws = accumulated_all [] p

  pub first_distinct : T (distinct (accumulated_all [] p))
  unfolding distinct
  first_distinct = distinct_accumulated_all [] p tt

  pub same_sums : SameCoefficients (grid_terms sums degrees s.first s.second s.third s.fourth most)
      (accumulated_all [] p)
  unfolding distinct
  same_sums k =
      sums_coefficients k
      ∙ sym (coefficient_accumulated_all [] p tt k ∙ rw (coefficient_nil k) (+ℤ_idl (coefficient_at p k)))

  -- they are no larger than the terms
  pub sums_small : size (grid_terms sums degrees s.first s.second s.third s.fourth most) ≤ size p
  sums_small =
      let f = size_same zs ws (rising_distinct zs sums_rising) first_distinct same_sums in
      omega (arith, f, size_accumulated_all [] p, size_nil)
