-- `term_bytes` by the number of variables.
use mathlib.Core.Path.{sym}
use Rattle.format.proofs.KeyBytesLaws.{term_length_short, term_length_long}
use Rattle.sheet_book.proofs.term_bytes.Goals as goal

pub returns-then-n-le-MOST_SHORT : goal.returns-then-n-le-MOST_SHORT
returns-then-n-le-MOST_SHORT c = sym (term_length_short c.args.n c.if-n-le-MOST_SHORT.true)

pub returns : goal.returns
returns c = sym (term_length_long c.args.n c.if-n-le-MOST_SHORT.false)
