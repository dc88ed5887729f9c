-- `row` adds the products of one term with each of a list.
use mathlib.Core.Path.{◌≡◌, refl, ◌∙◌, ap}
use mathlib.Core.List.{[], ◌∷◌, ◌++◌}
use Prim.Native.Nat.{ℕ, suc, ◌+◌, ◌/◌, ◌%◌, ◌^◌, ◌<◌}
use native.Mathlib.Numerals.{add-one}
use native.Mathlib.Omega.{arith}
use borrow.Author.Rules.{rules}
use lib.IntN.{ℤ, pos, nat_abs, ◌+ℤ◌, ◌*ℤ◌}
use lib.ListN.{length, get_or, take, length-set}
use lib.Seq.{take-suc, take_all}
use mir.Facts.{to_z-of_z}
use mir.Syntax.{w64}
use mir.Val.{SFits, to_z, of_z}
use Rattle.algebra.specs.Integer.{natAbs_add, nat_abs_mul}
use Rattle.algebra.specs.IntegerRing.{ℤR}
use Rattle.polynomial.specs.Polynomial.{add_exponents, times}
use Rattle.fixed.specs.MachineLaws.{fits_size}
use Rattle.calculus.specs.Terms.{Terms}
use Rattle.model_keys.specs.Keys.{wide_degree}
use Rattle.product_sums.specs.TermArrays.{at_key, none, terms}
use Rattle.product_sums.specs.TermArrayLaws.{terms_length, terms_at}
use Rattle.product_grid_index.specs.Grid.{place}
use Rattle.product_grid_index.specs.DegreeLaws.{word_place, word_degree}
use Rattle.product_grid_fill.specs.Filling.{RowFits, Filled}
use Rattle.product_grid_fill.specs.FillingLaws.{filled_none, filled_more, times_more, times_most}
use Rattle.product_grid_fill.proofs.row.Goals as goal
use Rattle.product_grid_fill.proofs.row.Goals.{After-old-1, After-product-z, After-y-1}

-- in an iteration: the next term, its place, and room for its product
module _ (d : After-y-1) where
  abbrev c : ℤ
  c = d.args.c

  abbrev j : ℕ
  j = d.loop-j.j

  abbrev y : ℤ
  y = get_or d.args.cb.now j (pos 0)

  abbrev v : ℕ
  v = d.args.at + get_or d.args.ib.now j 0

  abbrev p : ℕ
  p = v / 2 ^ 8

  abbrev old : ℤ
  old = get_or d.loop-j.sums p (pos 0)

  abbrev Fits : Type 0
  Fits =
      RowFits d.args.sums.now d.args.degrees.now d.args.at c d.args.cb.now d.args.ib.now
      d.args.count

  iteration : j < d.args.count
  iteration = d.loop-j-test.true

  fits_y : SFits w64 y
  fits_y = record { sfits = d.y-1.given }

  fits_c : to_z w64 (of_z w64 c) ≡ c
  fits_c = to_z-of_z d.ranges.c

  -- for any grid and keys
  module _ (w : Fits) where
    abbrev bs : Terms
    bs = terms d.args.count w.kb d.args.cb.now

    abbrev k : ℕ
    k = get_or w.kb j 0

    abbrev before : Terms
    before = times ℤR (at_key w.key c) (take j bs)

    next : take (suc j) bs ≡ take j bs ++ (at_key k y ∷ [])
    next =
        let a = d.args in
        let long = terms_length a.count w.kb a.cb.now w.keys_long w.coefficients_long in
        take-suc bs j none (omega (arith, iteration))
        ∙ ap (λ t. take j bs ++ (t ∷ []))
        (terms_at a.count w.kb a.cb.now j iteration w.keys_long w.coefficients_long)

    there : p ≡ place w.sides (w.key + k)
    there =
        ap (λ x. x / 2 ^ 8) (w.words j iteration)
        ∙ word_place w.sides.second w.sides.third w.sides.fourth (w.key + k)

    degree_there : v % 2 ^ 8 ≡ wide_degree (w.key + k)
    degree_there =
        ap (λ x. x % 2 ^ 8) (w.words j iteration)
        ∙ word_degree w.sides.second w.sides.third w.sides.fourth (w.key + k)

  filled : (w : Fits) → Filled w.sides d.args.sums.now (before w) d.loop-j.sums d.loop-j.degrees
  filled = rw (fits_c) at d.loop-j.invariant.filled

  -- where it goes
  abbrev w : Fits
  w = d.requires

  inside : p < w.sides.size
  inside = rw (there w) (w.gridded j iteration).below

  within_sums : p < length d.loop-j.sums
  within_sums = omega (arith, inside, w.sums_room, d.loop-j.invariant.sums_long)

  within_degrees : p < length d.loop-j.degrees
  within_degrees = omega (arith, inside, w.degrees_room, d.loop-j.invariant.degrees_long)

  word_fits : v < 2 ^ 64
  word_fits = omega (arith, inside, w.few_places)

  room : nat_abs (c *ℤ y) + nat_abs old < 2 ^ 63
  room =
      omega (
        arith,
        times_most (at_key w.key c) (bs w) j (at_key (k w) y) (next w),
        (filled w).grown p inside,
        w.small p inside,
      )

  fits_z : SFits w64 (c *ℤ y)
  fits_z = fits_size (omega (arith, room))

  fits_sum : SFits w64 (c *ℤ y +ℤ old)
  fits_sum = fits_size (omega (arith, room, natAbs_add (c *ℤ y) old))

pub loop-j-init : goal.loop-j-init
unfolding times
loop-j-init e =
    record {
      on = omega arith;
      sums_long = refl;
      degrees_long = refl;
      filled = λ w. filled_none w.sides _ _ w.marked;
    }

pub overflow_add-word : goal.overflow_add-word
overflow_add-word c = record { fits = omega (arith, word_fits (goal.at.overflow_add-word c).After-y-1) }

pub product-z-requires : goal.product-z-requires
product-z-requires e =
    rw (
      fits_c (goal.at.product-z-requires e).After-y-1,
      to_z-of_z (fits_y (goal.at.product-z-requires e).After-y-1),
    )
    (omega (
      arith,
      room (goal.at.product-z-requires e).After-y-1,
      nat_abs_mul (c (goal.at.product-z-requires e).After-y-1) (y (goal.at.product-z-requires e).After-y-1),
    ))

product_is : (e : After-product-z)
    → e.product-z.result ≡ c (goal.at.offset_bounds-sums-place e).After-y-1 *ℤ y
    (goal.at.offset_bounds-sums-place e).After-y-1
product_is e = rw (
  fits_c (goal.at.offset_bounds-sums-place e).After-y-1,
  to_z-of_z (fits_y (goal.at.offset_bounds-sums-place e).After-y-1),
) at e.product-z.ensures

pub offset_bounds-sums-place : goal.offset_bounds-sums-place
offset_bounds-sums-place e = let h = within_sums (goal.at.offset_bounds-sums-place e).After-y-1 in search rules

pub slice_copy_out-old : goal.slice_copy_out-old
slice_copy_out-old e = within_sums (goal.at.slice_copy_out-old e).After-y-1

-- what is there fits
fits_old : (e : After-old-1) → SFits w64 (old (goal.at.sum-sum-requires e).After-y-1)
fits_old e = record { sfits = e.old-1.given }

pub sum-sum-requires : goal.sum-sum-requires
sum-sum-requires e =
    rw (
      product_is (goal.at.sum-sum-requires e).After-product-z,
      to_z-of_z (fits_z (goal.at.sum-sum-requires e).After-y-1),
      to_z-of_z (fits_old e),
    ) (room (goal.at.sum-sum-requires e).After-y-1)

pub offset_bounds-sums-place-in-loop-j : goal.offset_bounds-sums-place-in-loop-j
offset_bounds-sums-place-in-loop-j e = let h = within_sums (goal.at.offset_bounds-sums-place-in-loop-j e).After-y-1
    in search rules

pub bounds-sums-place : goal.bounds-sums-place
bounds-sums-place e = within_sums (goal.at.bounds-sums-place e).After-y-1

pub bounds-degrees-place : goal.bounds-degrees-place
bounds-degrees-place e = within_degrees (goal.at.bounds-degrees-place e).After-y-1

pub loop-j-preserved : goal.loop-j-preserved
unfolding add_exponents
loop-j-preserved e =
    let z = c (goal.at.loop-j-preserved e).After-y-1 *ℤ y (goal.at.loop-j-preserved e).After-y-1 in
    let u : to_z w64 (of_z w64 e.sum-sum.result) ≡ z +ℤ old (goal.at.loop-j-preserved e).After-y-1 =
    ap (λ x. to_z w64 (of_z w64 x))
    (rw (
      product_is (goal.at.loop-j-preserved e).After-product-z,
      to_z-of_z (fits_z (goal.at.loop-j-preserved e).After-y-1),
      to_z-of_z (fits_old (goal.at.loop-j-preserved e).After-old-1),
    ) at e.sum-sum.ensures)
    ∙ to_z-of_z (fits_sum (goal.at.loop-j-preserved e).After-y-1) in
    record {
      on = omega (arith, iteration (goal.at.loop-j-preserved e).After-y-1);
      sums_long = length-set e.loop-j.sums (p (goal.at.loop-j-preserved e).After-y-1) _ ∙ e.loop-j.invariant.sums_long;
      degrees_long = length-set e.loop-j.degrees (p (goal.at.loop-j-preserved e).After-y-1) _
          ∙ e.loop-j.invariant.degrees_long;
      filled = rw (fits_c (goal.at.loop-j-preserved e).After-y-1, add-one) (λ w.
          rw (times_more (at_key w.key (c (goal.at.loop-j-preserved e).After-y-1))
          (bs (goal.at.loop-j-preserved e).After-y-1 w) (j (goal.at.loop-j-preserved e).After-y-1)
          (at_key (k (goal.at.loop-j-preserved e).After-y-1 w) (y (goal.at.loop-j-preserved e).After-y-1))
          (next (goal.at.loop-j-preserved e).After-y-1 w))
          (filled_more w.sides e.args.sums.now (before (goal.at.loop-j-preserved e).After-y-1 w) e.loop-j.sums
          e.loop-j.degrees
          (filled (goal.at.loop-j-preserved e).After-y-1 w) (omega (arith, w.sums_room, e.loop-j.invariant.sums_long))
          (omega (arith, w.degrees_room, e.loop-j.invariant.degrees_long))
          (w.key + k (goal.at.loop-j-preserved e).After-y-1 w) z _
          (w.gridded (j (goal.at.loop-j-preserved e).After-y-1) (iteration (goal.at.loop-j-preserved e).After-y-1))
          (p (goal.at.loop-j-preserved e).After-y-1) (there (goal.at.loop-j-preserved e).After-y-1 w) u _
          (degree_there (goal.at.loop-j-preserved e).After-y-1 w)));
    }

pub shape_of-sums : goal.shape_of-sums
shape_of-sums e = e.loop-j.invariant.sums_long

pub shape_of-degrees : goal.shape_of-degrees
shape_of-degrees e = e.loop-j.invariant.degrees_long

pub returns : goal.returns
returns e =
    let a = e.args in
    λ w.
    let bs = terms a.count w.kb a.cb.now in
    let long = terms_length a.count w.kb a.cb.now w.keys_long w.coefficients_long in
    let all : take e.loop-j.j bs ≡ bs = take_all e.loop-j.j bs (omega (arith, long, e.loop-j-test.false)) in
    rw all at (rw (to_z-of_z e.ranges.c) at e.loop-j.invariant.filled w)
