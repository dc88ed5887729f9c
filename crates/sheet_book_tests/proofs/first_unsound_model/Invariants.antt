-- `first_unsound_model` walks forward, model after model, and stops at the first fault.
use mathlib.Core.Path.{◌≡◌, sym, ◌∙◌}
use Prim.Native.Nat.{◌-◌, ◌≤◌, ◌<◌}
use native.Mathlib.Omega.{arith}
use borrow.Author.Rules.{rules}
use borrow.Author.Tests.{not-true, not-false}
use lib.ListN.{length, length-map}
use Rattle.calculus.specs.Book.{most_models}
use Rattle.sheet_book.specs.FailingLaws.{walked_first}
use Rattle.sheet_book_tests.specs.WalkLaws.{ModelsWalked, models_unsound, models_iteration, models_end}
use Rattle.sheet_book_tests.proofs.first_unsound_model.Given as goal

abbrev pub invariant-models : goal.invariant-models
invariant-models l = record { walked : ModelsWalked l.b l.k; placed : l.place ≡ l.count }
