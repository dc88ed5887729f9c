-- `kept_in_scratch` chooses between one pass, a grid and a table.
use native.Mathlib.Omega.{arith}
use borrow.Author.Rules.{rules}
use Rattle.product_in_table.specs.product_room.ProductTermsLaws.{first_one, second_one, none_kept, products_few}
use Rattle.product_in_table.specs.product_room.ProductTermsLaws.{grid_ready}
use Rattle.product_rising.specs.OneTermLaws.{turned_gathered}
use Rattle.product_strategy.proofs.kept_in_scratch.Reads as reads
use Rattle.product_strategy.proofs.kept_in_scratch.Lts as lts
use Rattle.product_in_table.proofs.product_grid.gathered.Reads as gathered-reads
use Rattle.product_rising.proofs.one_times.Reads as one-times-reads
use Rattle.product_strategy.proofs.grid_for.Reads as grid-for-reads
use Rattle.product_strategy.proofs.in_grid.Reads as in-grid-reads
use Rattle.product_in_table.proofs.in_scratch_table.Reads as in-scratch-table-reads
use Rattle.product_strategy.proofs.kept_in_scratch.Goals as goal

-- where the first or the second factor is one term
pub one_times-requires : goal.one_times-requires
one_times-requires c =
    record {
      one_ready = first_one c.requires.held_factors c.if-na-eq1.true;
      room = none_kept c.requires.kept_room;
    }

pub returns-then-na-eq1 : goal.returns-then-na-eq1
returns-then-na-eq1 c =
    rw c.if-na-eq1.true c.one_times.ensures

pub one_times-requires-then-nb-eq1 : goal.one_times-requires-then-nb-eq1
one_times-requires-then-nb-eq1 c =
    record {
      one_ready = second_one c.requires.held_factors c.if-nb-eq1.true;
      room = none_kept c.requires.kept_room;
    }

pub returns-then-nb-eq1 : goal.returns-then-nb-eq1
returns-then-nb-eq1 c =
    rw c.if-nb-eq1.true (turned_gathered (second_one c.requires.held_factors c.if-nb-eq1.true)
    c.one_times-then-nb-eq1.ensures)

pub in_grid-requires : goal.in_grid-requires
in_grid-requires c =
    products_few c.requires.held_factors

pub gathered-requires : goal.gathered-requires
gathered-requires c =
    let fits = c.in_grid.ensures c.if-in_grid.true in
    grid_ready c.requires.held_factors _ c.grid_for-s.ensures (omega (arith, fits.1)) (omega (arith, fits.0))
    c.requires.kept_room

pub returns-then-in_grid : goal.returns-then-in_grid
returns-then-in_grid c = c.gathered.ensures

pub returns : goal.returns
returns c = c.in_scratch_table.ensures
