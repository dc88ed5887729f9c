-- The first of a book's models, and of its steps, that fails its test.
use Rattle.std.specs.Prelude.{ℕ}
use Rattle.format.specs.HeldBook.{outline_of, held_model_sound, held_step_sound}
use Rattle.sheet_book.specs.declared.Book.{Book}
use Rattle.sheet_book.specs.BookStruct.{held_book}
use Rattle.sheet_book.specs.Failing.{first_failing}

-- of the models, by test 5
unfoldable pub first_unsound_model : Book → ℕ
first_unsound_model b =
    first_failing 0 (λ i. held_model_sound (outline_of (held_book b))) (held_book b).models

-- of the steps, by test 6
unfoldable pub first_unsound_step : Book → ℕ
first_unsound_step b = first_failing 0 (held_step_sound (outline_of (held_book b))) (held_book b).steps
