-- `in_own_table` makes a table of zeros.
use Rattle.product_in_table.specs.product_room.ProductTermsLaws.{zeros_empty}
use Rattle.product_own_room.proofs.in_own_table.Goals as goal

pub in_table-requires : goal.in_table-requires
in_table-requires g c =
    let sizes = c.requires.sizes in
    let empty = zeros_empty _ g.row.PRODUCTS c.requires.nb_bound sizes.0 in
    record {
      held_factors = c.requires.held_factors;
      empty_table = rw (sizes.1, sizes.2) empty;
      kept_room = c.requires.kept_room;
    }
