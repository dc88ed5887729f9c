-- `put_exact` puts the word, the quotient, the remainder and the line's end.
use mathlib.Core.Path.{◌≡◌, sym, ap}
use mathlib.Core.List.{List, ◌++◌}
use Prim.Native.Nat.{ℕ}
use borrow.Author.Rules.{rules}
use mir.Facts.{to_z-of_z}
use mir.Syntax.{w64}
use mir.Val.{to_z, of_z}
use Rattle.format.specs.Lines.{text}
use Rattle.text_decimal.specs.Put.{Put, Room, natural, integer}
use Rattle.text_decimal.specs.PutLaws.{◌then_put◌, put_as, room_before, room_after}
use Rattle.text_lines.specs.LineParts.{mixed}
use Rattle.text_lines.specs.LineLaws.{line_end, exact_pieces}
use Rattle.text_lines.proofs.put_exact.Goals as goal
use Rattle.text_lines.proofs.put_exact.Goals.{After-put_bytes-word, After-put_integer-first, After-put_natural-next, Start}

-- the numbers, and the quotient as the call sees it
module _ (c : Start) where
  abbrev quotient : List ℕ
  quotient = integer c.args.quotient

  abbrev rest : List ℕ
  rest = natural c.args.remainder

  quotient_is : integer (to_z w64 (of_z w64 c.args.quotient)) ≡ quotient
  quotient_is = ap integer (to_z-of_z c.ranges.quotient)

  whole : Room c.args.at (text "exact" ++ (quotient ++ (rest ++ line_end)))
  whole = rw (exact_pieces (mixed c.args.quotient c.args.remainder)) at c.requires

-- room after the word, after the quotient, and after the remainder
room₁ : (c : After-put_bytes-word) → Room c.put_bytes-word.result
    (quotient c.before.before.before.before.before ++ (rest c.before.before.before.before.before ++ line_end))
unfolding text
room₁ c = room_after (text "exact") _ (whole c.before.before.before.before.before) c.put_bytes-word.ensures

quotient_put : (c : After-put_integer-first)
    → let p = c.put_bytes-word in
    Put p.new.out p.result (quotient c.before.before.before.before.before.before.before.before.before)
    c.put_integer-first.new.out c.put_integer-first.result
quotient_put c = put_as (quotient_is c.before.before.before.before.before.before.before.before.before)
    c.put_integer-first.ensures

room₂ : (c : After-put_integer-first) → Room c.put_integer-first.result
    (rest c.before.before.before.before.before.before.before.before.before ++ line_end)
room₂ c = room_after (quotient c.before.before.before.before.before.before.before.before.before) _
    (room₁ c.before.before.before.before) (quotient_put c)

room₃ : (c : After-put_natural-next) → Room c.put_natural-next.result line_end
room₃ c = room_after (rest c.before.before.before.before.before.before.before.before.before.before.before.before.before)
    line_end (room₂ c.before.before.before.before) c.put_natural-next.ensures

pub put_bytes-word-requires : goal.put_bytes-word-requires
unfolding text
put_bytes-word-requires c = room_before (text "exact") _ (whole (goal.at.put_bytes-word-requires c).Start)

pub put_integer-first-requires : goal.put_integer-first-requires
put_integer-first-requires c =
    rw (quotient_is (goal.at.put_integer-first-requires c).Start)
    (room_before (quotient (goal.at.put_integer-first-requires c).Start) _
    (room₁ (goal.at.put_integer-first-requires c).After-put_bytes-word))

pub put_natural-next-requires : goal.put_natural-next-requires
put_natural-next-requires c =
    room_before (rest (goal.at.put_natural-next-requires c).Start) line_end
    (room₂ (goal.at.put_natural-next-requires c).After-put_integer-first)

pub put_byte-requires : goal.put_byte-requires
unfolding text
put_byte-requires c = room₃ (goal.at.put_byte-requires c).After-put_natural-next

pub returns : goal.returns
unfolding text
returns c =
    put_as (sym (exact_pieces _))
    (c.put_bytes-word.ensures then_put (quotient_put (goal.at.returns c).After-put_integer-first then_put
    (c.put_natural-next.ensures then_put c.put_byte.ensures)))
