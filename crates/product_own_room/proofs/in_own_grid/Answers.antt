-- `in_own_grid` makes a grid of zeros.
use Rattle.std.proofs.Common.{arith}
use Rattle.std.proofs.lemmas.List.{length-replicate}
use Rattle.product_in_table.specs.product_grid.GridReadyLaws.{fresh_zeros}
use Rattle.product_in_table.specs.product_room.ProductTermsLaws.{grid_ready}
use Rattle.product_own_room.proofs.in_own_grid.Goals as goal

pub gathered_empty-requires : goal.gathered_empty-requires
gathered_empty-requires g c =
    let few = c.requires.size_le_places in
    record {
      grid_ready = grid_ready c.requires.held_factors _ c.requires.s_value (omega arith) (rw length-replicate few)
          c.requires.kept_room;
      zeros = fresh_zeros g.row.PLACES _;
    }
