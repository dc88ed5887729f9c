-- `mark_of` by the number of variables.
use mathlib.Core.Path.{sym}
use Rattle.format.proofs.KeyBytesLaws.{mark_short, mark_long}
use Rattle.sheet_book.proofs.mark_of.Goals as goal

pub returns-then-n-le-MOST_SHORT : goal.returns-then-n-le-MOST_SHORT
returns-then-n-le-MOST_SHORT c = sym (mark_short c.args.n c.if-n-le-MOST_SHORT.true)

pub returns : goal.returns
returns c = sym (mark_long c.args.n c.if-n-le-MOST_SHORT.false)
