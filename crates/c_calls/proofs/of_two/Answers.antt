-- `of_two` compares the code with the first and the last.
use Rattle.std.proofs.Common.{arith}
use Rattle.std.proofs.lemmas.Bool.Decides.{nat_tests}
use Rattle.c_calls.specs.CallKinds.{of_two}
use Rattle.c_calls.proofs.of_two.Goals as goal

pub returns-then-code-ge-ADD : goal.returns-then-code-ge-ADD
unfolding of_two
returns-then-code-ge-ADD c = grind (arith, nat_tests)

pub returns-else-code-ge-ADD : goal.returns-else-code-ge-ADD
unfolding of_two
returns-else-code-ge-ADD c = grind (arith, nat_tests)
