-- What the walk that keeps the records answers.
use Rattle.std.specs.Prelude.{List, [], map, ℕ, ◌-◌, length, take}
use Rattle.calculus.specs.Book.{most_models, most_steps}
use Rattle.model_types.specs.Arrays.{padded}
use Rattle.format.specs.Format.{read_steps}
use Rattle.sheet_book.specs.BookStruct.{no_model, no_step, stored_model, stored_step}
use Rattle.sheet_walk.specs.Walk.{Walk, walk, steps_walked}
use Rattle.sheet_read_walk.specs.declared.ModelsRead.{ModelsRead}
use Rattle.sheet_read_walk.specs.declared.StepsRead.{StepsRead}

-- the struct of a walk over s
unfoldable pub models_read : (n d c : ℕ) → List ℕ → ModelsRead
models_read n d c s =
    let w : Walk = walk n d [] c s in
    record {
      place = length w.passed;
      end = length s - length w.left;
      models = padded no_model most_models (map stored_model w.passed);
    }

-- the struct of a walk over c steps
unfoldable pub steps_read : (n models c : ℕ) → List ℕ → StepsRead
steps_read n m c s = record {
  place = steps_walked n m c s;
  steps = padded no_step most_steps (map stored_step (take (steps_walked n m c s) (read_steps c s)));
}
