-- `in_scratch_table` empties the slots that it uses.
use mathlib.Core.Path.{◌≡◌, sym}
use Prim.Native.Nat.{ℕ, ◌+◌, ◌*◌}
use native.Mathlib.Omega.{arith}
use borrow.Author.Rules.{rules}
use lib.ListN.{length, take, length-take}
use Rattle.product_hash_table.specs.Table.{slots_each}
use Rattle.product_room.specs.ProductTermsLaws.{products_few}
use Rattle.product_in_table.proofs.in_scratch_table.Reads as reads
use Rattle.product_in_table.proofs.in_scratch_table.Lts as lts
use Rattle.product_hash_slots.proofs.clear.Reads as clear_reads
use Rattle.product_in_table.proofs.in_table.Reads as in-table-reads
use Rattle.product_in_table.proofs.in_scratch_table.Goals as goal
use Rattle.product_in_table.proofs.in_scratch_table.Goals.{Start}

-- how many slots are used
abbrev used : Start → ℕ
used s = slots_each * (s.args.na * s.args.nb) + 1

-- the part is within the scratch memory
part_long : (s : Start) → length (take (used s) s.args.slots.now) ≡ used s
part_long s = omega (arith, s.requires.scratch_room.slots_room, length-take (used s) s.args.slots.now)

pub slice_bounds-part-end-2 : goal.slice_bounds-part-end-2
slice_bounds-part-end-2 c = sym (part_long (goal.at.slice_bounds-part-end-2 c).Start)

pub in_table-requires : goal.in_table-requires
in_table-requires c =
    record {
      held_factors = c.requires.held_factors;
      empty_table = record {
        enough = omega arith;
        few = omega (arith, products_few c.requires.held_factors);
        empty = c.clear.ensures;
        slots_room = omega (arith, c.clear.auto.slots, part_long (goal.at.in_table-requires c).Start);
        keys_room = omega (arith, c.requires.scratch_room.keys_room);
        sums_room = omega (arith, c.requires.scratch_room.sums_room);
      };
      kept_room = c.requires.kept_room;
    }
