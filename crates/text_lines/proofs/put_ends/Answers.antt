-- `put_ends` puts the word, the two ends and the line's end.
use mathlib.Core.Path.{◌≡◌, sym, ap}
use mathlib.Core.List.{List, ◌++◌}
use Prim.Native.Nat.{ℕ}
use borrow.Author.Rules.{rules}
use mir.Facts.{to_z-of_z}
use mir.Syntax.{w64}
use mir.Val.{to_z, of_z}
use Rattle.format.specs.Lines.{text}
use Rattle.text_decimal.specs.Put.{Put, Room, integer}
use Rattle.text_decimal.specs.PutLaws.{◌then_put◌, put_as, room_before, room_after}
use Rattle.text_lines.specs.LineParts.{ends}
use Rattle.text_lines.specs.LineLaws.{line_end, ends_pieces}
use Rattle.text_lines.proofs.put_ends.Goals as goal
use Rattle.text_lines.proofs.put_ends.Goals.{After-put_bytes-first, After-put_integer-next, After-put_integer-second, Start}

-- the pieces, and the ends as the calls see them
module _ (c : Start) where
  abbrev word : List ℕ
  word = c.args.word.now

  abbrev low : List ℕ
  low = integer c.args.low

  abbrev high : List ℕ
  high = integer c.args.high

  low_is : integer (to_z w64 (of_z w64 c.args.low)) ≡ low
  low_is = ap integer (to_z-of_z c.ranges.low)

  high_is : integer (to_z w64 (of_z w64 c.args.high)) ≡ high
  high_is = ap integer (to_z-of_z c.ranges.high)

  whole : Room c.args.at (word ++ (low ++ (high ++ line_end)))
  whole = rw (ends_pieces word (ends c.args.low c.args.high)) at c.requires

-- room after the word, after the low end, and after the high end
room₁ : (c : After-put_bytes-first) → Room c.put_bytes-first.result
    (low c.before.before.before.before.before ++ (high c.before.before.before.before.before ++ line_end))
room₁ c = room_after (word c.before.before.before.before.before) _ (whole c.before.before.before.before.before)
    c.put_bytes-first.ensures

low_put : (c : After-put_integer-second)
    → let p = c.put_bytes-first in
    Put p.new.out p.result (low c.before.before.before.before.before.before.before.before.before)
    c.put_integer-second.new.out c.put_integer-second.result
low_put c = put_as (low_is c.before.before.before.before.before.before.before.before.before)
    c.put_integer-second.ensures

room₂ : (c : After-put_integer-second) → Room c.put_integer-second.result
    (high c.before.before.before.before.before.before.before.before.before ++ line_end)
room₂ c = room_after (low c.before.before.before.before.before.before.before.before.before) _
    (room₁ (record {
      before = c.before.before.before.before.before;
      type_inv = record
          { word = c.shared_slice_known-1.given };
    })) (low_put c)

high_put : (c : After-put_integer-next)
    → let p = c.put_integer-second in
    Put p.new.out p.result
    (high c.before.before.before.before.before.before.before.before.before.before.before.before.before)
    c.put_integer-next.new.out c.put_integer-next.result
high_put c = put_as
    (high_is c.before.before.before.before.before.before.before.before.before.before.before.before.before)
    c.put_integer-next.ensures

room₃ : (c : After-put_integer-next) → Room c.put_integer-next.result line_end
room₃ c = room_after (high c.before.before.before.before.before.before.before.before.before.before.before.before.before)
    line_end (room₂ (record {
      before = c.before.before.before.before.before;
      type_inv = record
          { word = c.shared_slice_known-1.given };
    })) (high_put c)

pub put_bytes-first-requires : goal.put_bytes-first-requires
put_bytes-first-requires c = room_before (word (goal.at.put_bytes-first-requires c).Start) _
    (whole (goal.at.put_bytes-first-requires c).Start)

pub put_integer-second-requires : goal.put_integer-second-requires
put_integer-second-requires c =
    rw (low_is (goal.at.put_integer-second-requires c).Start)
    (room_before (low (goal.at.put_integer-second-requires c).Start) _
    (room₁ (goal.at.put_integer-second-requires c).After-put_bytes-first))

pub put_integer-next-requires : goal.put_integer-next-requires
put_integer-next-requires c =
    rw (high_is (goal.at.put_integer-next-requires c).Start)
    (room_before (high (goal.at.put_integer-next-requires c).Start) line_end
    (room₂ (goal.at.put_integer-next-requires c).After-put_integer-second))

pub put_byte-requires : goal.put_byte-requires
unfolding text
put_byte-requires c = room₃ (goal.at.put_byte-requires c).After-put_integer-next

pub returns : goal.returns
unfolding text
returns c =
    put_as (sym (ends_pieces _ _))
    (c.put_bytes-first.ensures then_put (low_put (goal.at.returns c).After-put_integer-second then_put
    (high_put (goal.at.returns c).After-put_integer-next then_put c.put_byte.ensures)))
