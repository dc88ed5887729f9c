-- `rewrite_sheet` reads, and writes what was read.
use mathlib.Core.Path.{sym, ◌∙◌, ap}
use borrow.Author.Rules.{rules}
use borrow.Author.Tests.{le-leb, lt-leb}
use Rattle.c_writes.specs.WriteCalls.{WrittenNumbers, written_state, answered_write, write_book}
use Rattle.c_writes.specs.WriteCalls.{rewritten, called_rewrite}
use Rattle.c_writes.proofs.rewrite_sheet.Goals as goal

pub returns-then-numbers-lt-NUMBERS : goal.returns-then-numbers-lt-NUMBERS
unfolding called_rewrite
returns-then-numbers-lt-NUMBERS c = rw (lt-leb 2 _ c.if-numbers-lt-NUMBERS.true)

pub returns-in_default : goal.returns-in_default
unfolding written_state answered_write rewritten called_rewrite
returns-in_default c =
    ap (λ (z : WrittenNumbers). answered_write z c.args.buffer.now)
    c.store_written.ensures
    ∙ rw (
      le-leb 2 _ c.if-numbers-lt-NUMBERS.false,
      sym c.read-answer.ensures,
      c.in_default.is,
    )

pub returns : goal.returns
unfolding written_state answered_write write_book rewritten called_rewrite
returns c =
    ap (λ (z : WrittenNumbers). answered_write z c.write-w.new.buffer) c.store_written-2.ensures
    ∙ rw (
      c.write-w.ensures.answers,
      c.write-w.ensures.leaves,
      le-leb 2 _ c.if-numbers-lt-NUMBERS.false,
      sym c.read-answer.ensures,
      c.in-Ok.is,
    )
