-- Rows combined from the last one down: one place more, one row more, and the sizes.
use Rattle.std.specs.Prelude.{◌≡◌, ◌&&◌, ℕ, zero, suc, ◌+◌, ◌*◌, ◌-◌, ◌^◌, ◌≤◌, ◌<◌, T, eqb, leb, ℤ, pos, nat_abs, ◌+ℤ◌, ◌*ℤ◌, take, get_or, set}
use Rattle.std.proofs.Math.Path.{refl, sym, ap}
use Rattle.std.proofs.Common.{◌∙◌, ap₂, arith, leb→le}
use mathlib.Core.List.{List, [], ◌∷◌, ◌++◌}
use Rattle.std.proofs.Math.Nat as NatL
use Rattle.std.proofs.Math.Dec.{eqb→eq}
use Rattle.std.proofs.Math.ListN.{length, drop}
use Rattle.algebra.specs.Integer.{natAbs_add, nat_abs_mul}
use Rattle.calculus_laws.specs.TestLaws.{and_left, and_right}
use Rattle.chebyshev.specs.Coefficients.{Row, sum, scale, size}
use Rattle.chebyshev.specs.PowerRows.{places, zeros, combine}
use Rattle.chebyshev.proofs.RowLengthLaws.{sum_length, scale_length}
use Rattle.chebyshev.specs.Tables.{chebyshev_table, power_table}
use Rattle.model_curve_rows.specs.SmallRows.{each_small, rows_small}

-- ---- the first n of one row, and the others of another
abbrev mixed : (n : ℕ) (p q : Row) → Row
mixed n p q = take n p ++ drop n q

mixed_all : (p q : Row) → length p ≡ length q → mixed (length p) p q ≡ p
mixed_all [] [] e = refl
mixed_all [] (b ∷ q) e = absurd (omega arith)
mixed_all (a ∷ p) [] e = absurd (omega arith)
mixed_all (a ∷ p) (b ∷ q) e = ap (λ l. a ∷ l) (mixed_all p q (omega arith))

mixed_at : (p q : Row) (k : ℕ) → k < length p → get_or (mixed (suc k) p q) k (pos 0) ≡ get_or p k (pos 0)
mixed_at [] q k h = absurd (omega arith)
mixed_at (a ∷ p) q zero h = refl
mixed_at (a ∷ p) [] (suc k) h = mixed_at p [] k (omega arith)
mixed_at (a ∷ p) (b ∷ q) (suc k) h = mixed_at p q k (omega arith)

mixed_set : (p q : Row) (k : ℕ) → length p ≡ length q → k < length p
    → set (mixed (suc k) p q) k (get_or q k (pos 0)) ≡ mixed k p q
mixed_set [] q k e h = absurd (omega arith)
mixed_set (a ∷ p) [] k e h = absurd (omega arith)
mixed_set (a ∷ p) (b ∷ q) zero e h = refl
mixed_set (a ∷ p) (b ∷ q) (suc k) e h = ap (λ l. a ∷ l) (mixed_set p q k (omega arith) (omega arith))

mixed_length : (n : ℕ) (p q : Row) → length p ≡ length q → length (mixed n p q) ≡ length q
mixed_length zero p q e = refl
mixed_length (suc n) [] q e = absurd_or n q e
  where
    absurd_or : (n : ℕ) (q : Row) → 0 ≡ length q → length (drop (suc n) q) ≡ length q
    absurd_or n [] e = refl
    absurd_or n (b ∷ q) e = absurd (omega arith)
mixed_length (suc n) (a ∷ p) [] e = absurd (omega arith)
mixed_length (suc n) (a ∷ p) (b ∷ q) e = ap suc (mixed_length n p q (omega arith))

-- ---- entries and sizes
scaled_at : (c : ℤ) (p q : Row) (k : ℕ) → length p ≡ length q → k < length p
    → c *ℤ get_or p k (pos 0) +ℤ get_or q k (pos 0) ≡ get_or (sum (scale c p) q) k (pos 0)
unfolding sum scale
scaled_at c [] q k e h = absurd (omega arith)
scaled_at c (a ∷ p) [] k e h = absurd (omega arith)
scaled_at c (a ∷ p) (b ∷ q) zero e h = refl
scaled_at c (a ∷ p) (b ∷ q) (suc k) e h = scaled_at c p q k (omega arith) (omega arith)

pub entry_le : (l : Row) (i : ℕ) → nat_abs (get_or l i (pos 0)) ≤ size l
unfolding size
entry_le [] i = omega arith
entry_le (a ∷ l) zero = omega arith
entry_le (a ∷ l) (suc i) = omega (arith, entry_le l i)

scale_size : (c : ℤ) (p : Row) → size (scale c p) ≡ nat_abs c * size p
unfolding size scale
scale_size c [] = omega arith
scale_size c (a ∷ p) = omega (arith, scale_size c p, nat_abs_mul c a)

sum_size : (p q : Row) → size (sum p q) ≤ size p + size q
unfolding size sum
sum_size [] q = omega arith
sum_size (a ∷ p) [] = omega arith
sum_size (a ∷ p) (b ∷ q) = omega (arith, sum_size p q, natAbs_add a b)

no_size : size zeros ≡ 0
unfolding zeros size places
no_size = refl

-- ---- one row: j places are left
pub record Scaling (c : ℤ) (row t₀ t : Row) (j : ℕ) : Type 0 where
  pub most : j ≤ 16
  pub made : t ≡ mixed j t₀ (sum (scale c row) t₀)

module _ (c : ℤ) (row t₀ : Row) (u : length t₀ ≡ 16) (w : length row ≡ 16)
    (s : nat_abs c * size row + size t₀ < 2 ^ 63) where
  abbrev new : Row
  new = sum (scale c row) t₀

  same : length t₀ ≡ length new
  same = sym (sum_length (scale c row) t₀ (scale_length c row ∙ w ∙ sym u))

  pub scaling_first : Scaling c row t₀ t₀ 16
  scaling_first = record {
    most = omega arith;
    made = sym (ap (λ n. mixed n t₀ new) (sym u) ∙ mixed_all t₀ new same);
  }

  pub scaling_length : (t : Row) (j : ℕ) → Scaling c row t₀ t j → length t ≡ 16
  scaling_length t j h = ap length h.made ∙ mixed_length j t₀ new same ∙ sym same ∙ u

  module _ (t : Row) (j : ℕ) (h : Scaling c row t₀ t j) (p : 0 < j) where
    abbrev k : ℕ
    k = j - 1

    below : suc k ≡ j
    below = omega arith

    pub place_inside : k < 16
    place_inside = omega (arith, h.most)

    at_hand : t ≡ mixed (suc k) t₀ new
    at_hand = h.made ∙ ap (λ n. mixed n t₀ new) (sym below)

    there : get_or t k (pos 0) ≡ get_or t₀ k (pos 0)
    there = ap (λ l. get_or l k (pos 0)) at_hand ∙ mixed_at t₀ new k (omega (arith, place_inside, u))

    pub part_room : nat_abs c * nat_abs (get_or row k (pos 0)) < 2 ^ 63
    part_room = omega (arith, s, NatL.mul-le-mul_left (nat_abs c) (entry_le row k))

    pub sum_room : nat_abs (c *ℤ get_or row k (pos 0)) + nat_abs (get_or t k (pos 0)) < 2 ^ 63
    sum_room = omega (
      arith,
      s,
      nat_abs_mul c (get_or row k (pos 0)),
      NatL.mul-le-mul_left (nat_abs c) (entry_le row k),
      ap nat_abs there,
      entry_le t₀ k,
    )

    pub scaling_iteration : (x : ℤ) → x ≡ c *ℤ get_or row k (pos 0) +ℤ get_or t k (pos 0)
        → Scaling c row t₀ (set t k x) k
    scaling_iteration x e = record {
      most = omega (arith, h.most);
      made = ap₂ (λ l x. set l k x) at_hand
          (e ∙ ap (λ z. c *ℤ get_or row k (pos 0) +ℤ z) there
          ∙ scaled_at c row t₀ k (w ∙ sym u) (omega (arith, place_inside, w)))
          ∙ mixed_set t₀ new k same (omega (arith, place_inside, u));
    }

  pub scaling_end : (t : Row) (j : ℕ) → Scaling c row t₀ t j → j ≤ 0 → t ≡ sum (scale c row) t₀
  scaling_end t j h p = let e : j ≡ 0 = omega arith in h.made ∙ ap (λ n. mixed n t₀ new) e

-- ---- rows of a table
drop_more : {A : Type 0} (d : A) (l : List A) (i : ℕ) → i < length l → drop i l ≡ get_or l i d ∷ drop (suc i) l
drop_more d [] i h = absurd (omega arith)
drop_more d (a ∷ l) zero h = refl
drop_more d (a ∷ l) (suc i) h = drop_more d l i (omega arith)

drop_none : {A : Type 0} (l : List A) → drop (length l) l ≡ []
drop_none [] = refl
drop_none (a ∷ l) = drop_none l

-- the first row's tests, and those of the others
first_tests : (r : Row) (rows : List Row) → T (each_small (r ∷ rows)) → T (eqb (length r) 16 && leb (size r) (2 ^ 19))
unfolding each_small
first_tests r rows t = and_left (eqb (length r) 16 && leb (size r) (2 ^ 19)) _ t

other_tests : (r : Row) (rows : List Row) → T (each_small (r ∷ rows)) → T (each_small rows)
unfolding each_small
other_tests r rows t = and_right (eqb (length r) 16 && leb (size r) (2 ^ 19)) _ t

each_length : (rows : List Row) (k : ℕ) → T (each_small rows) → k < length rows → length (get_or rows k []) ≡ 16
each_length [] k t h = absurd (omega arith)
each_length (r ∷ rows) zero t h = eqb→eq (length r) 16 (and_left (eqb (length r) 16) _ (first_tests r rows t))
each_length (r ∷ rows) (suc k) t h = each_length rows k (other_tests r rows t) (omega arith)

each_size : (rows : List Row) (k : ℕ) → T (each_small rows) → k < length rows → size (get_or rows k []) ≤ 2 ^ 19
each_size [] k t h = absurd (omega arith)
each_size (r ∷ rows) zero t h =
    leb→le (size r) (2 ^ 19) (and_right (eqb (length r) 16) _ (first_tests r rows t))
each_size (r ∷ rows) (suc k) t h = each_size rows k (other_tests r rows t) (omega arith)

size_drop : (l : Row) (i : ℕ) → i < length l → size (drop i l) ≡ nat_abs (get_or l i (pos 0)) + size (drop (suc i) l)
unfolding size
size_drop l i h = ap size (drop_more (pos 0) l i h)

size_drop_le : (l : Row) (i : ℕ) → size (drop i l) ≤ size l
unfolding size
size_drop_le l zero = omega arith
size_drop_le [] (suc i) = omega arith
size_drop_le (a ∷ l) (suc i) = omega (arith, size_drop_le l i)

-- ---- all rows: k of them are left
pub record Combining (cs : Row) (rows : List Row) (t : Row) (k : ℕ) : Type 0 where
  pub most : k ≤ 16
  pub made : t ≡ combine (drop k cs) (drop k rows)
  pub long : length t ≡ 16
  pub small : size t ≤ size (drop k cs) * 2 ^ 19

module _ (cs : Row) (rows : List Row) (u : length cs ≡ 16) (s : size cs < 2 ^ 31) (b : T (rows_small rows)) where
  count : length rows ≡ 16
  unfolding rows_small
  count = eqb→eq (length rows) 16 (and_left (eqb (length rows) 16) _ b)

  each : T (each_small rows)
  unfolding rows_small
  each = and_right (eqb (length rows) 16) _ b

  zeros_long : length zeros ≡ 16
  unfolding zeros places
  zeros_long = refl

  pub combining_first : (t : Row) → t ≡ zeros → Combining cs rows t 16
  unfolding combine
  combining_first t e = record {
    most = omega arith;
    made = e ∙ sym (ap (λ l. combine l (drop 16 rows)) (ap (λ n. drop n cs) (sym u) ∙ drop_none cs));
    long = ap length e ∙ zeros_long;
    small = omega (arith, ap size e, no_size);
  }

  module _ (t : Row) (k : ℕ) (h : Combining cs rows t k) (p : 0 < k) where
    abbrev i : ℕ
    i = k - 1

    abbrev c : ℤ
    c = get_or cs i (pos 0)

    abbrev row : Row
    row = get_or rows i []

    one_below : suc i ≡ k
    one_below = omega arith

    pub row_inside : i < 16
    row_inside = omega (arith, h.most)

    pub row_long : length row ≡ 16
    row_long = each_length rows i each (omega (arith, row_inside, count))

    row_size : nat_abs c * size row ≤ nat_abs c * 2 ^ 19
    row_size = NatL.mul-le-mul_left (nat_abs c) (each_size rows i each (omega (arith, row_inside, count)))

    sizes : size (drop i cs) ≡ nat_abs c + size (drop k cs)
    sizes = size_drop cs i (omega (arith, row_inside, u)) ∙ ap (λ n. nat_abs c + size (drop n cs)) one_below

    pub row_room : nat_abs c * size row + size t < 2 ^ 63
    row_room = omega (arith, row_size, sizes, size_drop_le cs i, h.small, s)

    pub combining_iteration : (y : Row) → y ≡ sum (scale c row) t → Combining cs rows y i
    combining_iteration y e = record {
      most = omega (arith, h.most);
      made = e ∙ ap (λ t. sum (scale c row) t)
          (h.made ∙ ap (λ n. combine (drop n cs) (drop n rows)) (sym one_below)) ∙ one_more;
      long = ap length e ∙ sum_length (scale c row) t (scale_length c row ∙ row_long ∙ sym h.long) ∙ h.long;
      small = omega (
        arith,
        ap size e,
        sum_size (scale c row) t,
        scale_size c row,
        row_size,
        sizes,
        h.small,
      );
    }
      where
        one_more : sum (scale c row) (combine (drop (suc i) cs) (drop (suc i) rows)) ≡ combine (drop i cs) (drop i rows)
        one_more = unfold combine in
            sym (ap₂ combine (drop_more (pos 0) cs i (omega (arith, row_inside, u)))
            (drop_more [] rows i (omega (arith, row_inside, count))))

  pub combining_end : (t : Row) (k : ℕ) → Combining cs rows t k → k ≤ 0 → t ≡ combine cs rows
  combining_end t k h p =
      let e : k ≡ 0 = omega arith in h.made ∙ ap (λ n. combine (drop n cs) (drop n rows)) e

-- ---- the size of what is combined, and the two tables
pub combine_size : (cs : Row) (rows : List Row) → T (each_small rows) → size (combine cs rows) ≤ size cs * 2 ^ 19
unfolding combine size
combine_size [] rows t = omega (arith, no_size)
combine_size (c ∷ cs) [] t = omega (arith, no_size)
combine_size (c ∷ cs) (r ∷ rows) t = omega (
  arith,
  sum_size (scale c r) (combine cs rows),
  scale_size c r,
  NatL.mul-le-mul_left (nat_abs c) (each_size (r ∷ rows) 0 t (omega arith)),
  combine_size cs rows (other_tests r rows t),
)

pub chebyshev_fits : T (rows_small chebyshev_table)
unfolding rows_small each_small chebyshev_table size
chebyshev_fits = tt

pub power_fits : T (rows_small power_table)
unfolding rows_small each_small power_table size
power_fits = tt

pub into_powers_size : (cs : Row) → size (combine cs chebyshev_table) ≤ size cs * 2 ^ 19
unfolding rows_small
into_powers_size cs = combine_size cs chebyshev_table (and_right (eqb (length chebyshev_table) 16) _ chebyshev_fits)

pub from_powers_size : (cs : Row) → size (combine cs power_table) ≤ size cs * 2 ^ 19
unfolding rows_small
from_powers_size cs = combine_size cs power_table (and_right (eqb (length power_table) 16) _ power_fits)
