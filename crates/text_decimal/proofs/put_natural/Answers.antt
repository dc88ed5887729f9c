-- `put_natural` puts a space, then the number.
use mathlib.Core.List.{[], ◌∷◌}
use borrow.Author.Rules.{rules}
use Rattle.format.specs.Lines.{text, decimal}
use Rattle.text_decimal.specs.Put.{natural}
use Rattle.text_decimal.specs.PutLaws.{◌then_put◌, room_before, room_after}
use Rattle.text_decimal.proofs.put_natural.Goals as goal

pub put_byte-next-requires : goal.put_byte-next-requires
unfolding natural text
put_byte-next-requires c =
    room_before (32 ∷ []) (decimal c.args.x) c.requires

pub put_decimal-requires : goal.put_decimal-requires
unfolding natural text
put_decimal-requires c =
    room_after (32 ∷ []) (decimal c.args.x) c.requires c.put_byte-next.ensures

pub returns : goal.returns
unfolding natural text
returns c =
    c.put_byte-next.ensures then_put c.put_decimal.ensures
