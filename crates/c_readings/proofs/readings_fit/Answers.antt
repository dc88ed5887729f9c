-- `readings_fit` makes the tests one after the other.
use native.Mathlib.Omega.{arith}
use Rattle.std.proofs.lemmas.Grind.{common_steps}
use Rattle.std.proofs.lemmas.Bool.Decides.{nat_tests}
use Rattle.c_readings.specs.HandedReadings.{readings_fit}
use Rattle.c_readings.proofs.readings_fit.Goals as goal

pub returns-then-lows-highs : goal.returns-then-lows-highs
unfolding readings_fit
returns-then-lows-highs c = grind (arith, common_steps, nat_tests)

pub returns-else-lows-highs : goal.returns-else-lows-highs
unfolding readings_fit
returns-else-lows-highs c = grind (arith, common_steps, nat_tests)
