-- `find` ends at the home slot, or goes on below the entry that it leads to.
use mathlib.Core.Path.{◌≡◌, ◌∙◌, ap}
use Prim.Native.Nat.{◌<◌}
use lib.ListN.{length, get_or}
use Rattle.product_hash_slots.specs.Slots.{home_slot}
use Rattle.product_hash_slots.specs.SlotsLaws.{walking_first, walking_found}
use borrow.Author.Rules.{rules}
use Rattle.product_hash_slots.proofs.find.Goals as goal
use Rattle.product_hash_slots.proofs.find.Goals.{After-entry_number-x}

-- the entry that the home slot leads to
entered : (c : After-entry_number-x)
    → c.entry_number-x.result ≡ get_or c.args.slots.now
    (home_slot c.args.homes
    c.args.key) 0
entered c = c.entry_number-x.ensures ∙ ap (λ h. get_or c.args.slots.now h 0)
    c.home_slot-h.ensures.0

leads : (c : After-entry_number-x)
    → c.entry_number-x.result < length c.args.keys.now
leads c = rw (entered c) (c.requires.inside _)

pub offset_bounds-keys-x : goal.offset_bounds-keys-x
offset_bounds-keys-x c = let i = leads c in search rules

pub bounds-keys-x : goal.bounds-keys-x
bounds-keys-x c = leads (goal.at.bounds-keys-x c).After-entry_number-x

pub returns-then-keys-x : goal.returns-then-keys-x
returns-then-keys-x c =
    rw c.home_slot-h.ensures.0
    (walking_found _ _ _ _ c.requires (walking_first _ _ _ _)
    (rw (entered (goal.at.returns-then-keys-x c).After-entry_number-x) at c.if-keys-x.true))

pub find_below-requires : goal.find_below-requires
find_below-requires c =
    record {
      searchable = c.requires;
      missed = record { is = entered (goal.at.find_below-requires c).After-entry_number-x; other = c.if-keys-x.false };
    }
