-- `trailer_at` is the struct of what the trailer at a place says.
use lib.Seq.{drop-drop}
use Rattle.format.specs.Format.{read_trailer}
use Rattle.format.specs.ReadLoopLaws.{byte_at}
use Rattle.sheet_decode.specs.Trailer.{stored_trailer}
use Rattle.model_bytes.specs.WordsAtLaws.{byte_here}
use borrow.Author.Rules.{rules}
use Rattle.sheet_decode.proofs.trailer_at.Goals as goal

pub returns : goal.returns
unfolding stored_trailer read_trailer
returns c =
    let a = c.args in
    rw (
      c.marked_at.ensures,
      byte_at a.at 7 a.s.now,
      c.byte_at-5.ensures,
      byte_here a.at a.s.now,
      byte_at a.at 1 a.s.now,
      byte_at a.at 2 a.s.now,
      byte_at a.at 3 a.s.now,
      drop-drop 4 a.at a.s.now,
      c.byte_at.ensures,
      c.byte_at-2.ensures,
      c.byte_at-3.ensures,
      c.byte_at-4.ensures,
      c.u16_at.ensures,
    )
