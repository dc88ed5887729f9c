-- `length_sound` is test 1.
use Rattle.std.proofs.Common.{arith}
use Rattle.std.proofs.lemmas.Bool.Decides.{nat_tests}
use Rattle.calculus.specs.Model.{between}
use Rattle.format.specs.Format.{shortest, longest}
use Rattle.sheet_tests.proofs.length_sound.Goals as goal

pub returns-then-length-ge-SHORTEST : goal.returns-then-length-ge-SHORTEST
unfolding between shortest longest
returns-then-length-ge-SHORTEST c = grind (arith, nat_tests)

pub returns-else-length-ge-SHORTEST : goal.returns-else-length-ge-SHORTEST
unfolding between shortest
returns-else-length-ge-SHORTEST c = grind (arith, nat_tests)
