-- `step_at` is the struct of the step at a place.
use Rattle.format.specs.ReadLoopLaws.{byte_at}
use Rattle.model_bytes.specs.WordsAtLaws.{byte_here}
use lib.Seq.{drop-drop}
use Rattle.fixed.specs.MachineLaws.{answered}
use Rattle.format.specs.Format.{read_step}
use Rattle.sheet_book.specs.BookStruct.{stored_step}
use borrow.Author.Rules.{rules}
use Rattle.sheet_decode.proofs.step_at.Goals as goal

pub returns : goal.returns
unfolding stored_step read_step
returns c =
    let a = c.args in
    rw (
      byte_here a.at a.s.now,
      byte_at a.at 1 a.s.now,
      byte_at a.at 2 a.s.now,
      byte_at a.at 3 a.s.now,
      drop-drop 4 a.at a.s.now,
      c.byte_at.ensures,
      c.byte_at-2.ensures,
      c.byte_at-3.ensures,
      c.byte_at-4.ensures,
      answered c.signed_at.type_inv c.signed_at.ensures,
    )
