-- `first_unsound_step` walks forward: steps before number i pass, and the loop is left at the first that does not.
use mathlib.Core.Path.{◌≡◌}
use Prim.Native.Nat.{◌-◌, ◌≤◌, ◌<◌}
use native.Mathlib.Omega.{arith}
use borrow.Author.Rules.{rules}
use borrow.Author.Tests.{not-true, not-false}
use lib.ListN.{length, length-map}
use Rattle.calculus.specs.Book.{most_steps}
use Rattle.sheet_book.specs.FailingLaws.{walked_first}
use Rattle.sheet_book_tests.specs.WalkLaws.{StepsWalked, steps_iteration, steps_bad, steps_end}
use Rattle.sheet_book_tests.proofs.first_unsound_step.Given as goal

abbrev pub invariant-steps : goal.invariant-steps
invariant-steps l = record { walked : StepsWalked l.b l.i; placed : l.place ≡ l.count }
