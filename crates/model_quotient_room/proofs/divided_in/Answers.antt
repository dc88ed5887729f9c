-- `divided_in` has a table with room for the products of its forms.
use Rattle.std.proofs.Common.{arith}
use Rattle.std.proofs.lemmas.List.{length-replicate}
use Rattle.product_room.specs.ProductTermsLaws.{fewer_room}
use Rattle.model_quotient_room.proofs.divided_in.Goals as goal

pub whole_as_slice-divided : goal.whole_as_slice-divided
whole_as_slice-divided g c = omega (arith, c.requires.small.0)

pub whole_as_slice-divided-2 : goal.whole_as_slice-divided-2
whole_as_slice-divided-2 g c = omega (arith, c.requires.small.1)

pub whole_as_slice-divided-3 : goal.whole_as_slice-divided-3
whole_as_slice-divided-3 g c = omega (arith, c.requires.small.2)

pub divided-requires : goal.divided-requires
divided-requires g c =
    record {
      proposal = c.requires.proposal;
      scratch_room = fewer_room {products = g.row.PRODUCTS}
          (record {
            slots_room = rw length-replicate c.requires.sizes.0;
            keys_room = rw length-replicate c.requires.sizes.1;
            sums_room = rw length-replicate c.requires.sizes.2;
          })
          c.requires.count_bound;
    }

pub returns : goal.returns
returns g c = c.divided.ensures
