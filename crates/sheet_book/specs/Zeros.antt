-- The sum of all numbers in a book's struct, in places that are used and in those that are not: 0 only if all are 0.
use Rattle.std.specs.Prelude.{List, [], ◌∷◌, ℕ, ◌+◌, nat_abs}
use Rattle.model_types.specs.declared.Model.{Model}
use Rattle.sheet_book.specs.declared.Step.{Step}
use Rattle.sheet_book.specs.declared.Book.{Book}

-- over an array
unfoldable pub array_total : {A : Type 0} → (A → ℕ) → List A → ℕ
array_total f [] = 0
array_total f (x ∷ l) = f x + array_total f l

-- of a model, all places of both its arrays
unfoldable pub model_total : Model → ℕ
model_total m =
    m.n + m.count + m.radius + array_total (λ k. k) m.keys + array_total nat_abs m.coefficients

-- of a step
unfoldable pub step_total : Step → ℕ
step_total s = s.code + s.a + s.b + s.v + nat_abs s.value

-- of a book, all its places of models and of steps
unfoldable pub book_total : Book → ℕ
book_total b =
    b.n + b.d + b.model_count + b.step_count
    + array_total model_total b.models
    + array_total step_total b.steps
