-- A book struct with zeros in the places that it does not use: what comes back from a sheet that it is written to.
use Rattle.std.specs.Prelude.{◌≡◌, map, ℕ, ◌<◌, length, get_or, take}
use Rattle.calculus.specs.Model.{most_terms}
use Rattle.calculus.specs.Book.{most_models, most_steps}
use Rattle.model_types.specs.declared.Model.{Model}
use Rattle.model_types.specs.Arrays.{padded}
use Rattle.model_types.specs.ModelStruct.{listed, of_terms, pad}
use Rattle.sheet_book.specs.declared.Book.{Book}
use Rattle.sheet_book.specs.BookStruct.{no_model, no_step}

-- the arrays have all their places, as those of every struct in memory do
pub record Whole (b : Book) : Type 0 where
  pub models : length b.models ≡ most_models
  pub steps : length b.steps ≡ most_steps
  pub keys : (i : ℕ) → i < most_models → length (get_or b.models i no_model).keys ≡ most_terms
  pub coefficients : (i : ℕ) → i < most_models → length (get_or b.models i no_model).coefficients ≡ most_terms

-- a model: no more than the first `count` terms
unfoldable pub cleared_model : Model → Model
cleared_model m = of_terms m.n m.count m.radius (pad (take m.count (listed m)))

-- a book: no more than the first models and steps, by their counts
unfoldable pub cleared : Book → Book
cleared b = record {
  n = b.n;
  d = b.d;
  model_count = b.model_count;
  step_count = b.step_count;
  models = padded no_model most_models (map cleared_model (take b.model_count b.models));
  steps = padded no_step most_steps (take b.step_count b.steps);
}
