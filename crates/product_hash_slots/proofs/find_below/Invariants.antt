-- `find_below` comes to the first slot on the key's way that leads to the key, after the home slot.
use Rattle.product_hash_slots.specs.SlotsLaws.{Walking}
use Rattle.product_hash_slots.proofs.find_below.Given as goal

abbrev pub invariant-loop-homes : goal.invariant-loop-homes
invariant-loop-homes l = Walking l.homes l.slots l.keys l.key l.h l.path

-- what is left of the way
abbrev pub decreases-loop-homes : goal.decreases-loop-homes
decreases-loop-homes l = l.path
