-- `gathered_empty` finds the words, adds all products, and keeps what order d keeps of their sums.
use mathlib.Core.Path.{◌≡◌, ◌∙◌}
use Prim.Native.Nat.{ℕ}
use native.Mathlib.Omega.{arith}
use lib.ListN.{length, replicate, length-replicate}
use Rattle.algebra.specs.IntegerRing.{ℤR}
use Rattle.polynomial.specs.Polynomial.{product}
use Rattle.calculus.specs.Model.{most_terms}
use Rattle.product_sums.specs.TermArrays.{terms, scratch_places}
use Rattle.product_grid_fill.specs.Filling.{AllFit, SummedUp}
use Rattle.product_grid.specs.GridReadyLaws.{all_fit, most_low, scan_ready, scanned}
use borrow.Author.Rules.{rules}
use Rattle.product_grid.proofs.gathered_empty.Reads as reads
use Rattle.product_grid.proofs.gathered_empty.Lts as lts
use Rattle.product_grid_index.proofs.degree_of.Reads as degree-of-reads
use Rattle.product_grid_index.proofs.word_all.Reads as word-all-reads
use Rattle.product_grid_fill.proofs.fill.Reads as fill-reads
use Rattle.product_grid_scan.proofs.scan.Reads as scan-reads
use Rattle.product_grid.proofs.gathered_empty.Goals as goal
use Rattle.product_grid.proofs.gathered_empty.Goals.{After-fill, After-word_all-2}

pub word_all-requires : goal.word_all-requires
unfolding most_terms
word_all-requires c =
    let q = c.requires.grid_ready in
    record {
      narrow = q.narrow;
      count_in_bounds = (q.first_keys, q.first_few);
    }

pub word_all-requires-2 : goal.word_all-requires-2
unfolding most_terms
word_all-requires-2 c =
    let q = c.requires.grid_ready in
    record {
      narrow = q.narrow;
      count_in_bounds = (q.second_keys, q.second_few);
    }

-- once the words are found
module _ (two : After-word_all-2) where
  fits : AllFit two.args.sums.now (replicate scratch_places 0) two.args.ca.now
      two.word_all.new.words two.args.na two.args.cb.now
      two.word_all-2.new.words two.args.nb
  unfolding most_terms
  fits =
      let q = two.requires.grid_ready in
      all_fit q two.requires.zeros _ _ (omega (arith, two.word_all.auto.words, q.first_few))
      (omega (arith, two.word_all-2.auto.words, q.second_few)) two.word_all.ensures
      two.word_all-2.ensures

pub fill-requires : goal.fill-requires
fill-requires c = fits (goal.at.fill-requires c).After-word_all-2

-- once the grid is filled
module _ (f : After-fill) where
  summed : SummedUp f.args.s
      (product ℤR (terms f.args.na f.args.ka.now f.args.ca.now)
      (terms f.args.nb f.args.kb.now f.args.cb.now))
      f.fill.new.sums f.fill.new.degrees
  unfolding fits all_fit
  summed = f.fill.ensures (fits (record {
    before = f.before.before.before.before.before.before.before;
    type_inv = record
        { kept = f.slice_known-1.given; kb = f.shared_slice_known-2-1.given; ka = f.shared_slice_known-1.given };
  }))

  wide : length f.fill.new.degrees ≡ scratch_places
  wide = f.fill.auto.degrees ∙ length-replicate {A = ℕ} scratch_places 0

pub overflow_add-most : goal.overflow_add-most
overflow_add-most c =
    record { fits = omega (arith, most_low c.requires.grid_ready c.degree_of-a.ensures c.degree_of-b.ensures) }

pub scan-requires : goal.scan-requires
scan-requires c =
    let q = c.requires.grid_ready in record {
      scan_ready = scan_ready q c.degree_of-a.ensures c.degree_of-b.ensures _ _
          (summed (goal.at.scan-requires c).After-fill) c.fill.auto.sums
          (wide (goal.at.scan-requires c).After-fill);
      room = record { taken = omega arith; kept_room = q.kept_room; coefficients_room = q.coefficients_room };
    }

pub returns : goal.returns
returns c =
    scanned c.requires.grid_ready c.degree_of-a.ensures c.degree_of-b.ensures _ _
    (summed (goal.at.returns c).After-fill) c.fill.auto.sums
    (wide (goal.at.returns c).After-fill) c.args.d c.scan.ensures
