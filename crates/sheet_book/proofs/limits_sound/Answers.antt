-- `limits_sound` makes the tests of test 3 one number after the other.
use Rattle.std.proofs.Common.{arith}
use Rattle.std.proofs.lemmas.Bool.Decides.{nat_tests}
use Rattle.sheet_book.specs.CodeLaws.{limits_by_numbers}
use Rattle.sheet_book.proofs.limits_sound.Goals as goal

pub returns-then-steps-ge1 : goal.returns-then-steps-ge1
returns-then-steps-ge1 c = rw limits_by_numbers (grind (arith, nat_tests))

pub returns-else-steps-ge1 : goal.returns-else-steps-ge1
returns-else-steps-ge1 c = rw limits_by_numbers (grind (arith, nat_tests))
