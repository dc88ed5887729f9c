-- `substituted_in` has a table with room for the products of g with 64 terms.
use Rattle.std.proofs.Common.{arith}
use Rattle.std.proofs.lemmas.List.{length-replicate}
use Rattle.model.proofs.substituted_in.Goals as goal

pub whole_as_slice-substituted : goal.whole_as_slice-substituted
whole_as_slice-substituted g c = omega (arith, c.requires.small.0)

pub whole_as_slice-substituted-2 : goal.whole_as_slice-substituted-2
whole_as_slice-substituted-2 g c = omega (arith, c.requires.small.1)

pub whole_as_slice-substituted-3 : goal.whole_as_slice-substituted-3
whole_as_slice-substituted-3 g c = omega (arith, c.requires.small.2)

pub substituted-requires : goal.substituted-requires
substituted-requires g c =
    record {
      substitution = c.requires.substitution;
      scratch_room = record {
        slots_room = rw length-replicate c.requires.slots;
        keys_room = rw length-replicate c.requires.places.0;
        sums_room = rw length-replicate c.requires.places.1;
      };
    }

pub returns : goal.returns
returns g c = c.substituted.ensures
