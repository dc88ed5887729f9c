-- `limit_a` is the limit by the code.
use Rattle.std.proofs.Common.{arith}
use Rattle.std.proofs.lemmas.Bool.Decides.{nat_tests}
use Rattle.format.specs.Fields.{limit_a}
use Rattle.sheet_book.proofs.limit_a.Goals as goal

pub returns-in-0 : goal.returns-in-0
unfolding limit_a
returns-in-0 c = grind (arith, nat_tests)

pub returns-in-1 : goal.returns-in-1
unfolding limit_a
returns-in-1 c = grind (arith, nat_tests)

pub returns-in_default : goal.returns-in_default
unfolding limit_a
returns-in_default c = grind (arith, nat_tests)
