-- `put_byte` stores where there is room, and moves the place in either case.
use borrow.Author.Rules.{rules}
use Rattle.text_decimal.specs.PutLaws as put
use Rattle.text_decimal.proofs.put_byte.Goals as goal

pub returns-then-at-out : goal.returns-then-at-out
returns-then-at-out c = put.put_byte

pub returns : goal.returns
returns c = put.put_out c.if-at-out.false
