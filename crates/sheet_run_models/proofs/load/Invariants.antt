-- `load` puts one model after the other.
use mathlib.Core.Path.{◌≡◌, refl, sym, ◌∙◌, subst}
use mathlib.Core.List.{[]}
use Prim.Native.Nat.{◌+◌, ◌-◌, ◌<◌, ◌≤◌}
use native.Mathlib.Omega.{arith}
use lib.ListN.{length, get_or, length-map}
use Rattle.calculus.specs.Book.{most_models, model_of}
use Rattle.model_types.specs.declared.Model.{Model}
use Rattle.model_types.specs.ModelStruct.{of_terms, view}
use Rattle.format.specs.HeldBook.{view_book}
use Rattle.sheet_book.specs.declared.Book.{Book}
use Rattle.sheet_book.specs.BookStruct.{held_book}
use Rattle.sheet_book.specs.FailingLaws.{count_models}
use Rattle.sheet_results.specs.Results.{Results, results, Roomy}
use Rattle.sheet_results.specs.ResultsLaws.{roomy_less}
use Rattle.sheet_run_laws.specs.RunLaws.{models_few}
use Rattle.sheet_run_laws.specs.MemoryLaws.{LoadedFirst, model_here, load_room, load_more, load_end, own_steps}
use borrow.Author.Rules.{rules}
use Rattle.sheet_run_models.proofs.load.Given as goal

abbrev pub invariant-loop-k : goal.invariant-loop-k
invariant-loop-k l =
    Roomy (most_models + l.b.step_count) (results l.keys l.coefficients l.counts l.radii)
    × LoadedFirst (held_book l.b) l.k (results l.keys l.coefficients l.counts l.radii)
