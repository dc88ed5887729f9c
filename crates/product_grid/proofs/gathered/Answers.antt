-- `gathered` empties the grid first.
use Rattle.product_grid.specs.GridReadyLaws.{ready_again}
use borrow.Author.Rules.{rules}
use Rattle.product_grid.proofs.gathered.Reads as reads
use Rattle.product_grid.proofs.gathered.Lts as lts
use Rattle.product_grid_fill.proofs.empty.Reads as empty-reads
use Rattle.product_grid.proofs.gathered_empty.Reads as gathered-empty-reads
use Rattle.product_grid.proofs.gathered.Goals as goal

pub gathered_empty-requires : goal.gathered_empty-requires
gathered_empty-requires c =
    record {
      grid_ready = ready_again c.requires _ c.empty.auto.sums;
      zeros = c.empty.ensures;
    }
