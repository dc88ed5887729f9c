-- What a read answers holds the book that was read; beside a refusal the book of zeros, with zeros in all its places.
use Rattle.std.specs.Prelude.{◌≡◌, refl, ℕ}
use Rattle.calculus.specs.Model.{zero_model, most_terms}
use Rattle.calculus.specs.Book.{most_models, most_steps}
use Rattle.calculus.specs.Refusal.{Refusal, Result, done, stopped, returned}
use Rattle.model_types.specs.Arrays.{padded}
use Rattle.model_types.specs.ModelStruct.{pack}
use Rattle.format.specs.HeldBook.{HeldBook, zero_book}
use Rattle.sheet_book.specs.BookStruct.{no_model, held_book, stored_book, read_answer}
use Rattle.sheet_book.specs.BookStructLaws.{held_stored}
use Rattle.sheet_book.specs.Zeros.{array_total, model_total, step_total, book_total}

-- THEOREM: every number of the book beside a refusal is 0, by computation
pub refused_zeros : (q : Refusal) (i : ℕ) → book_total (read_answer (stopped q i)).book ≡ 0
unfolding read_answer stored_book zero_book padded most_terms most_models most_steps array_total model_total
    step_total book_total
refused_zeros q i = refl

-- a place that is not used holds the model without terms, its n set to 0
pub no_model_packed : pack (zero_model 0) ≡ no_model
unfolding pack zero_model padded most_terms
no_model_packed = refl

-- the struct answers what document 01 names for the read
pub read_value : (r : Result HeldBook) → held_book (read_answer r).book ≡ (returned zero_book r).value
unfolding read_answer returned
read_value (done h) = held_stored h
read_value (stopped q i) = held_stored zero_book
