-- `of_one` compares the code with each of three.
use Rattle.std.proofs.Common.{arith}
use Rattle.std.proofs.lemmas.Bool.Decides.{nat_tests}
use Rattle.c_calls.specs.CallKinds.{of_one}
use Rattle.c_calls.proofs.of_one.Goals as goal

pub returns-then-code-eq-SWEEP : goal.returns-then-code-eq-SWEEP
unfolding of_one
returns-then-code-eq-SWEEP c = grind (arith, nat_tests)

pub returns-else-code-eq-SWEEP : goal.returns-else-code-eq-SWEEP
unfolding of_one
returns-else-code-eq-SWEEP c = grind (arith, nat_tests)
