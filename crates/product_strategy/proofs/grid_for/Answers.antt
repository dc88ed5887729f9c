-- `grid_for` finds the extents of both, and the sides for them.
use mathlib.Core.Path.{◌∙◌, ap₂}
use borrow.Author.Rules.{rules}
use Rattle.product_grid_index.specs.Grid.{sides_for}
use Rattle.product_in_table.specs.product_room.ProductTermsLaws.{first_low, second_low}
use Rattle.product_strategy.proofs.grid_for.Reads as reads
use Rattle.product_strategy.proofs.grid_for.Lts as lts
use Rattle.product_grid_index.proofs.extents_of.Reads as extents-of-reads
use Rattle.product_grid_index.proofs.sides_of.Reads as sides-of-reads
use Rattle.product_strategy.proofs.grid_for.Goals as goal

pub sides_of-requires : goal.sides_of-requires
sides_of-requires c =
    record {
      low = rw c.extents_of-e.ensures (first_low c.requires);
      low_2 = rw c.extents_of-h.ensures (second_low c.requires);
    }

pub returns : goal.returns
returns c =
    c.sides_of.ensures ∙ ap₂ sides_for c.extents_of-e.ensures c.extents_of-h.ensures
