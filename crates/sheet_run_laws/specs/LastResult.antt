-- What the steps of a book lead to.
use Rattle.std.specs.Prelude.{[]}
use Rattle.calculus.specs.Model.{Model, zero_model}
use Rattle.calculus.specs.Refusal.{Result, done, ◌followed_by◌}
use Rattle.calculus.specs.Book.{Book, run_steps, last}

-- the last step's result, or the refusal of the first step that is refused
unfoldable pub last_result : Book → Result Model
last_result book =
    run_steps book [] book.steps
    followed_by (λ results. done (last (zero_model book.vars) results))
