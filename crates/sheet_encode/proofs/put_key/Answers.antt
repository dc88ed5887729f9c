-- `put_key` puts two bytes or four.
use mathlib.Core.Path.{◌∙◌, ap}
use native.Mathlib.Omega.{arith}
use lib.Seq.{sets}
use Rattle.format.proofs.KeyBytesLaws.{key_length_short, key_length_long, key_bytes_short, key_bytes_long}
use Rattle.sheet_encode.proofs.put_key.Goals as goal

pub put_u16-requires : goal.put_u16-requires
put_u16-requires c = omega (arith, c.requires, key_length_short c.args.n c.if-n-le-MOST_SHORT.true)

pub put_u32-requires : goal.put_u32-requires
put_u32-requires c = omega (arith, c.requires, key_length_long c.args.n c.if-n-le-MOST_SHORT.false)

pub returns-then-n-le-MOST_SHORT : goal.returns-then-n-le-MOST_SHORT
returns-then-n-le-MOST_SHORT c = c.put_u16.ensures ∙ ap (sets _ _) (key_bytes_short _ _ c.if-n-le-MOST_SHORT.true)

pub returns-else-n-le-MOST_SHORT : goal.returns-else-n-le-MOST_SHORT
returns-else-n-le-MOST_SHORT c = c.put_u32.ensures ∙ ap (sets _ _) (key_bytes_long _ _ c.if-n-le-MOST_SHORT.false)
