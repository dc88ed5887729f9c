-- `fill` adds one row of products after the other.
use mathlib.Core.Path.{◌≡◌, refl, ◌∙◌}
use Prim.Native.Nat.{◌<◌}
use native.Mathlib.Numerals.{add-one}
use native.Mathlib.Omega.{arith}
use lib.IntN.{ℤ, pos}
use lib.ListN.{get_or, take}
use lib.Seq.{take_all}
use mir.Facts.{to_z-of_z}
use mir.Syntax.{w64}
use mir.Val.{to_z, of_z}
use Rattle.polynomial.specs.Polynomial.{product}
use Rattle.product_sums.specs.TermArrays.{at_key, terms}
use Rattle.product_sums.specs.TermArrayLaws.{terms_length}
use Rattle.product_grid_fill.specs.Filling.{AllFit}
use Rattle.product_grid_fill.specs.FillingLaws.{filled_first, filled_after, filled_last, products_more}
use Rattle.product_grid_fill.specs.FillingLaws.{next_first}
use Rattle.product_grid_fill.specs.FillingLaws.{row_fits}
use Rattle.product_grid_fill.proofs.fill.Goals as goal
use Rattle.product_grid_fill.proofs.fill.Goals.{After-c-1}

-- in an iteration
module _ (d : After-c-1) where
  iteration : d.loop-i.i < d.args.na
  iteration = d.loop-i-test.true

  abbrev y : ℤ
  y = get_or d.args.ca.now d.loop-i.i (pos 0)

  abbrev Fits : Type 0
  Fits =
      AllFit d.args.sums.now d.args.degrees.now d.args.ca.now d.args.ia.now d.args.na
      d.args.cb.now d.args.ib.now d.args.nb

  fits_y : to_z w64 (of_z w64 y) ≡ y
  fits_y = to_z-of_z {w = w64} (record { sfits = d.c-1.given })

pub loop-i-init : goal.loop-i-init
unfolding product
loop-i-init c =
    record {
      on = omega arith;
      sums_long = refl;
      degrees_long = refl;
      filled = λ w. filled_first w.sides _ _ w.zeros w.short;
    }

pub row-requires : goal.row-requires
row-requires c =
    let h = c.loop-i.invariant in
    rw (fits_y (goal.at.row-requires c).After-c-1)
    (row_fits c.requires c.loop-i.i (iteration (goal.at.row-requires c).After-c-1) c.loop-i.sums c.loop-i.degrees
    (h.filled c.requires)
    h.sums_long h.degrees_long)

pub loop-i-preserved : goal.loop-i-preserved
unfolding row_fits
loop-i-preserved c =
    let h = c.loop-i.invariant in
    let a = c.args in
    let i = c.loop-i.i in
    let added = rw (fits_y (goal.at.loop-i-preserved c).After-c-1) at c.row.ensures in
    record {
      on = omega (arith, iteration (goal.at.loop-i-preserved c).After-c-1);
      sums_long = c.row.auto.sums ∙ h.sums_long;
      degrees_long = c.row.auto.degrees ∙ h.degrees_long;
      filled = rw add-one (λ (w : Fits (goal.at.loop-i-preserved c).After-c-1).
          rw (products_more (terms a.na w.ka a.ca.now) (terms a.nb w.kb a.cb.now) i
          (at_key (get_or w.ka i 0) (y (goal.at.loop-i-preserved c).After-c-1))
          (next_first w i (iteration (goal.at.loop-i-preserved c).After-c-1) c.loop-i.sums c.loop-i.degrees))
          (filled_after _ _ _ _ _ _ _ _ (h.filled w)
          (added (row_fits w i (iteration (goal.at.loop-i-preserved c).After-c-1) c.loop-i.sums c.loop-i.degrees
          (h.filled w) h.sums_long
          h.degrees_long))));
    }

pub shape_of-sums : goal.shape_of-sums
shape_of-sums c = c.loop-i.invariant.sums_long

pub shape_of-degrees : goal.shape_of-degrees
shape_of-degrees c = c.loop-i.invariant.degrees_long

pub returns : goal.returns
returns c =
    let a = c.args in
    λ w.
    let firsts = terms a.na w.ka a.ca.now in
    let long = terms_length a.na w.ka a.ca.now w.first_keys w.first_coefficients in
    let all : take c.loop-i.i firsts ≡ firsts =
    take_all c.loop-i.i firsts (omega (arith, long, c.loop-i-test.false)) in
    filled_last _ _ _ _ (rw all at (c.loop-i.invariant.filled w))
