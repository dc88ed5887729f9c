-- `step_sound` makes the tests of test 6 one field after the other.
use Rattle.std.proofs.Common.{arith}
use Rattle.std.proofs.lemmas.Bool.Decides.{nat_tests}
use Rattle.format.specs.Fields.{fields_sound}
use Rattle.sheet_book.specs.BookStruct.{held_step}
use Rattle.sheet_book.proofs.step_sound.Goals as goal

pub returns-then-v_sound : goal.returns-then-v_sound
unfolding fields_sound held_step
returns-then-v_sound c = grind (arith, nat_tests, c.value_sound.ensures)

pub returns-else-v_sound : goal.returns-else-v_sound
unfolding fields_sound held_step
returns-else-v_sound c = grind (arith, nat_tests)
