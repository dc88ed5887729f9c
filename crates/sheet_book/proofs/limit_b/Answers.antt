-- `limit_b` is the limit by the code.
use Rattle.std.proofs.Common.{arith}
use Rattle.std.proofs.lemmas.Bool.Decides.{nat_tests}
use Rattle.format.specs.Fields.{limit_b}
use Rattle.sheet_book.proofs.limit_b.Goals as goal

pub returns-in-4-to-7 : goal.returns-in-4-to-7
unfolding limit_b
returns-in-4-to-7 c = grind (arith, nat_tests)

pub returns-in-4-to-7-2 : goal.returns-in-4-to-7-2
unfolding limit_b
returns-in-4-to-7-2 c = grind (arith, nat_tests)

pub returns-in_default : goal.returns-in_default
unfolding limit_b
returns-in_default c = grind (arith, nat_tests)

pub returns-in_default-2 : goal.returns-in_default-2
unfolding limit_b
returns-in_default-2 c = grind (arith, nat_tests)
