-- `put_radius` puts the word, the number and the line's end.
use mathlib.Core.Path.{sym}
use mathlib.Core.List.{◌++◌}
use borrow.Author.Rules.{rules}
use Rattle.format.specs.Lines.{text}
use Rattle.text_decimal.specs.Put.{Room, natural}
use Rattle.text_decimal.specs.PutLaws.{◌then_put◌, put_as, room_before, room_after}
use Rattle.text_lines.specs.LineLaws.{line_end, radius_pieces}
use Rattle.text_lines.proofs.put_radius.Goals as goal
use Rattle.text_lines.proofs.put_radius.Goals.{After-put_bytes-word, After-put_natural-next}

-- room after the word, and after the number
room₁ : (c : After-put_bytes-word)
    → Room c.put_bytes-word.result (natural c.args.radius ++ line_end)
unfolding text
room₁ c =
    room_after (text "radius") _ (rw (radius_pieces c.args.radius) at c.requires) c.put_bytes-word.ensures

room₂ : (c : After-put_natural-next) → Room c.put_natural-next.result line_end
room₂ c = room_after (natural _) line_end (room₁ c.before.before.before.before) c.put_natural-next.ensures

pub put_natural-next-requires : goal.put_natural-next-requires
put_natural-next-requires c = room_before (natural _) line_end
    (room₁ (goal.at.put_natural-next-requires c).After-put_bytes-word)

pub put_byte-requires : goal.put_byte-requires
unfolding text
put_byte-requires c = room₂ (goal.at.put_byte-requires c).After-put_natural-next

pub returns : goal.returns
unfolding text
returns c =
    put_as (sym (radius_pieces _))
    (c.put_bytes-word.ensures then_put (c.put_natural-next.ensures then_put c.put_byte.ensures))
