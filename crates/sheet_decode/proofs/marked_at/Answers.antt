-- `marked_at` tests the two bytes of the marks.
use Rattle.std.proofs.Common.{arith}
use Rattle.std.proofs.lemmas.Bool.Decides.{nat_tests}
use Rattle.format.specs.Format.{read_trailer}
use Rattle.format.specs.ReadLoopLaws.{byte_at}
use Rattle.sheet_decode.proofs.marked_at.Goals as goal

pub returns-then-last-eq-SHORT_MARK : goal.returns-then-last-eq-SHORT_MARK
unfolding read_trailer
returns-then-last-eq-SHORT_MARK c =
    let a = c.args in
    rw (byte_at a.at 6 a.s.now, byte_at a.at 7 a.s.now, ← c.byte_at.ensures, ← c.byte_at-last.ensures)
    (grind (arith, nat_tests))

pub returns-else-last-eq-SHORT_MARK : goal.returns-else-last-eq-SHORT_MARK
unfolding read_trailer
returns-else-last-eq-SHORT_MARK c =
    let a = c.args in
    rw (byte_at a.at 6 a.s.now, byte_at a.at 7 a.s.now, ← c.byte_at.ensures, ← c.byte_at-last.ensures)
    (grind (arith, nat_tests))

pub returns-else-byte_at-eq-FIRST_MARK : goal.returns-else-byte_at-eq-FIRST_MARK
unfolding read_trailer
returns-else-byte_at-eq-FIRST_MARK c =
    let a = c.args in
    rw (byte_at a.at 6 a.s.now, byte_at a.at 7 a.s.now, ← c.byte_at.ensures, ← c.byte_at-last.ensures)
    (grind (arith, nat_tests))
