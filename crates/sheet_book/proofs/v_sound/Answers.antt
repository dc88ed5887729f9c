-- `v_sound` is the test by the code.
use Rattle.std.proofs.Common.{arith}
use Rattle.std.proofs.lemmas.Bool.Decides.{nat_tests}
use Rattle.calculus.specs.Tests.{variable_sound}
use Rattle.format.specs.Fields.{names_variable, v_sound}
use Rattle.sheet_book.proofs.v_sound.Goals as goal

pub returns-in-2 : goal.returns-in-2
unfolding names_variable v_sound variable_sound
returns-in-2 c = grind (arith, nat_tests, c.from_one.ensures)

pub returns-in-9 : goal.returns-in-9
unfolding names_variable v_sound
returns-in-9 c = grind (arith, nat_tests)

pub returns-in_default : goal.returns-in_default
unfolding names_variable v_sound
returns-in_default c = grind (arith, nat_tests)
