-- `call_known` tests for the antiderivative first.
use Rattle.std.proofs.Common.{arith}
use Rattle.std.proofs.lemmas.Bool.Decides.{nat_tests}
use Rattle.c_calls.specs.CallCodes.{call_known}
use Rattle.c_calls.proofs.call_known.Goals as goal

pub returns-then-code-eq-ANTIDERIVATIVE : goal.returns-then-code-eq-ANTIDERIVATIVE
unfolding call_known
returns-then-code-eq-ANTIDERIVATIVE c = grind (arith, nat_tests)

pub returns-then-code-ge-CONSTANT : goal.returns-then-code-ge-CONSTANT
unfolding call_known
returns-then-code-ge-CONSTANT c = grind (arith, nat_tests)

pub returns-else-code-ge-CONSTANT : goal.returns-else-code-ge-CONSTANT
unfolding call_known
returns-else-code-ge-CONSTANT c = grind (arith, nat_tests)
