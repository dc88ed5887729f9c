-- `find_below` comes to the first slot on the key's way that leads to the key, after the home slot.
use Prim.Native.Nat.{◌+◌, ◌*◌, ◌<◌}
use native.Mathlib.Nat.{div-lt_self}
use native.Mathlib.Omega.{arith}
use borrow.Author.Rules.{rules}
use lib.ListN.{length}
use Rattle.product_hash_slots.specs.SlotsLaws.{walking_in, walking_left, walking_on}
use Rattle.product_hash_slots.specs.SlotsLaws.{walking_found, missed_below, walking_below}
use Rattle.product_hash_slots.proofs.find_below.Goals as goal
use Rattle.product_hash_slots.proofs.find_below.Goals.{After-entry_number-x, At-loop-homes}

inside : (l : At-loop-homes) → l.loop-homes.h < length l.args.slots.now
inside l = walking_in _ _ _ _ l.requires.searchable l.loop-homes.invariant

leads : (c : After-entry_number-x)
    → c.entry_number-x.result < length c.args.keys.now
leads c = rw c.entry_number-x.ensures (c.requires.searchable.inside c.loop-homes.h)

further : (c : After-entry_number-x)
    → let a = c.args in a.homes + 2 * c.entry_number-x.result + 1 < length a.slots.now
further c = rw c.entry_number-x.ensures (c.requires.searchable.below_in c.loop-homes.h)

pub way-whole-requires : goal.way-whole-requires
way-whole-requires c = c.requires.searchable.told

pub overflow_mul-h : goal.overflow_mul-h
overflow_mul-h c = let b = missed_below c.requires.searchable c.requires.missed in search rules

pub overflow_add-h : goal.overflow_add-h
overflow_add-h c = let b = missed_below c.requires.searchable c.requires.missed in search rules

pub overflow_add-h-2 : goal.overflow_add-h-2
overflow_add-h-2 c = let b = missed_below c.requires.searchable c.requires.missed in search rules

pub loop-homes-init : goal.loop-homes-init
loop-homes-init c =
    rw c.way-whole.ensures (walking_below c.requires.searchable c.requires.missed)

pub offset_bounds-slots-h : goal.offset_bounds-slots-h
offset_bounds-slots-h c = let i = inside c in search rules

pub bounds-slots-h : goal.bounds-slots-h
bounds-slots-h c = inside (goal.at.bounds-slots-h c).At-loop-homes

pub offset_bounds-keys-x : goal.offset_bounds-keys-x
offset_bounds-keys-x c = let i = leads c in search rules

pub bounds-keys-x : goal.bounds-keys-x
bounds-keys-x c = leads (goal.at.bounds-keys-x c).After-entry_number-x

pub returns-then-keys-x : goal.returns-then-keys-x
returns-then-keys-x c =
    walking_found _ _ _ _ c.requires.searchable c.loop-homes.invariant
    (rw c.entry_number-x.ensures at c.if-keys-x.true)

pub overflow_mul-h-in-loop-homes : goal.overflow_mul-h-in-loop-homes
overflow_mul-h-in-loop-homes c = let b = further (goal.at.overflow_mul-h-in-loop-homes c).After-entry_number-x in search
    rules

pub overflow_add-h-in-loop-homes : goal.overflow_add-h-in-loop-homes
overflow_add-h-in-loop-homes c = let b = further (goal.at.overflow_add-h-in-loop-homes c).After-entry_number-x in search
    rules

pub overflow_add-h-in-loop-homes-2 : goal.overflow_add-h-in-loop-homes-2
overflow_add-h-in-loop-homes-2 c = let b = further (goal.at.overflow_add-h-in-loop-homes-2 c).After-entry_number-x
    in search rules

pub loop-homes-smaller : goal.loop-homes-smaller
loop-homes-smaller c =
    div-lt_self
    (walking_left _ _ _ _ c.requires.searchable c.loop-homes.invariant
    (rw c.entry_number-x.ensures at c.if-keys-x.false))
    (omega arith)

pub loop-homes-preserved : goal.loop-homes-preserved
loop-homes-preserved c =
    rw c.entry_number-x.ensures
    (walking_on _ _ _ _ c.requires.searchable c.loop-homes.invariant (rw c.entry_number-x.ensures at
    c.if-keys-x.false))
