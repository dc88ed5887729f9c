-- `put_refusal` puts the word, the number, the place and the line's end.
use mathlib.Core.Path.{sym}
use mathlib.Core.List.{◌++◌}
use borrow.Author.Rules.{rules}
use Rattle.format.specs.Lines.{text}
use Rattle.text_decimal.specs.Put.{Room, natural}
use Rattle.text_decimal.specs.PutLaws.{◌then_put◌, put_as, room_before, room_after}
use Rattle.text_lines.specs.LineLaws.{line_end, refusal_pieces}
use Rattle.text_lines.proofs.put_refusal.Goals as goal
use Rattle.text_lines.proofs.put_refusal.Goals.{After-put_bytes-first, After-put_natural-next, After-put_natural-second}

-- room after the word, after the number, and after the place
room₁ : (c : After-put_bytes-first)
    → Room c.put_bytes-first.result
    (natural c.args.number
    ++ (natural c.args.place ++ line_end))
unfolding text
room₁ c =
    room_after (text "refused") _ (rw (refusal_pieces c.args.number c.args.place) at c.requires)
    c.put_bytes-first.ensures

room₂ : (c : After-put_natural-second)
    → Room c.put_natural-second.result
    (natural c.args.place ++ line_end)
room₂ c = room_after (natural _) _ (room₁ c.before.before.before.before) c.put_natural-second.ensures

room₃ : (c : After-put_natural-next) → Room c.put_natural-next.result line_end
room₃ c = room_after (natural _) line_end (room₂ c.before.before.before.before) c.put_natural-next.ensures

pub put_natural-second-requires : goal.put_natural-second-requires
put_natural-second-requires c = room_before (natural _) _
    (room₁ (goal.at.put_natural-second-requires c).After-put_bytes-first)

pub put_natural-next-requires : goal.put_natural-next-requires
put_natural-next-requires c = room_before (natural _) line_end
    (room₂ (goal.at.put_natural-next-requires c).After-put_natural-second)

pub put_byte-requires : goal.put_byte-requires
unfolding text
put_byte-requires c = room₃ (goal.at.put_byte-requires c).After-put_natural-next

pub returns : goal.returns
unfolding text
returns c =
    put_as (sym (refusal_pieces _ _))
    (c.put_bytes-first.ensures
    then_put (c.put_natural-second.ensures then_put (c.put_natural-next.ensures then_put c.put_byte.ensures)))
