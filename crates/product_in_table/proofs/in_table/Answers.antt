-- `in_table` has the products collected, and then gathered.
use borrow.Author.Rules.{rules}
use Rattle.product_room.specs.product_hash_collect.FactorArrayLaws.{collect_ready, gather_ready}
use Rattle.product_room.specs.ProductTermsLaws.{collected_gathering}
use Rattle.product_in_table.proofs.in_table.Reads as reads
use Rattle.product_in_table.proofs.in_table.Lts as lts
use Rattle.product_room.proofs.product_hash_collect.collect.Reads as collect-reads
use Rattle.product_room.proofs.product_hash_gather.gather.Reads as gather-reads
use Rattle.product_in_table.proofs.in_table.Goals as goal

pub collect-n-requires : goal.collect-n-requires
collect-n-requires c =
    collect_ready c.requires.held_factors c.requires.empty_table

pub gather-requires : goal.gather-requires
gather-requires c =
    gather_ready c.requires.held_factors c.collect-n.ensures c.requires.kept_room.kept_room
    c.requires.kept_room.coefficients_room

pub returns : goal.returns
returns c =
    collected_gathering c.collect-n.ensures c.gather.ensures
