-- `summed_alone` chooses between a grid and a table, each large enough.
use borrow.Author.Rules.{rules}
use Rattle.product_own_room.specs.product_room.ProductTermsLaws.{products_few}
use Rattle.product_terms.proofs.summed_alone.Goals as goal

pub overflow_mul-products : goal.overflow_mul-products
overflow_mul-products c = let p = products_few c.requires.held_factors in search rules

pub in_grid-requires : goal.in_grid-requires
in_grid-requires c = products_few c.requires.held_factors

pub in_own_table-requires-2 : goal.in_own_table-requires-2
in_own_table-requires-2 c = let p = products_few c.requires.held_factors in search rules
