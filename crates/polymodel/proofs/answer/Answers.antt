-- The whole text is written, which its array has room for whatever the sheet is.
use Rattle.std.proofs.Common.{sym, arith, ◌≤◌, length}
use Rattle.std.proofs.Math.Seq.{length-take-le}
use Rattle.text.specs.Text.{most_text}
use Rattle.text.specs.LengthLaws.{text_length}
use Rattle.polymodel.proofs.answer.Goals as goal

-- the text fits
pub slice_bounds-lines-end : goal.slice_bounds-lines-end
unfolding most_text
slice_bounds-lines-end c =
    omega (arith, c.print-length.ensures.0, c.print-length.auto.out, text_length c.args.sheet.now)

pub slice_bounds-write_all-end : goal.slice_bounds-write_all-end
unfolding most_text
slice_bounds-write_all-end c =
    let fits : c.print-length.result ≤ length c.print-length.new.out
    = omega (arith, c.print-length.ensures.0, c.print-length.auto.out, text_length c.args.sheet.now) in
    sym (length-take-le _ _ fits)
