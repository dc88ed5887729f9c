-- Books written as sheets: whether a call fits, and what the buffer and the numbers hold at the end.
use Rattle.std.specs.Prelude.{Bool, true, false, ◌&&◌, List, [], ◌∷◌, ℕ, min, leb}
use Rattle.calculus.specs.Book.{most_models, most_steps}
use Rattle.model_types.specs.ModelStruct.{Verdict}
use Rattle.std.specs.Prelude.{Ok, Err}
use Rattle.model_types.specs.ModelStruct.{refused_at}
use Rattle.model_types.specs.ModelStruct.{verdict_number, verdict_place}
use Rattle.format.specs.HeldBook.{HeldBook}
use Rattle.format.specs.Format.{write, written}
use Rattle.sheet_book.specs.declared.Book.{Book}
use Rattle.sheet_book.specs.declared.Read.{Read}
use Rattle.sheet_book.specs.declared.Written.{Written}
use Rattle.sheet_book.specs.BookStruct.{held_book, write_answer}
use Rattle.model_slices.specs.HandedModels.{misused, over}

-- whether there are as many models and steps as the counts name, and room for the numbers
unfoldable pub book_fits : (model_count models step_count steps numbers : ℕ) → Bool
book_fits mc models sc steps numbers = leb (min mc most_models) models && leb (min sc most_steps) steps && leb 2 numbers

-- ---- a write
-- the number that it returns, and its numbers
pub record WrittenNumbers : Type 0 where
  pub number : ℕ
  pub numbers : List ℕ

-- these, put together
unfoldable pub written_state : (number : ℕ) → List ℕ → WrittenNumbers
written_state number ns = record { number = number; numbers = ns }

-- the refusal's place and the length, over what the slice holds
unfoldable pub stored_written : Written → List ℕ → WrittenNumbers
stored_written w ns = written_state (verdict_number w.verdict)
    (over (verdict_place w.verdict ∷ w.length ∷ []) ns)

-- the number that a call returns, the buffer and the numbers
pub record Write : Type 0 where
  pub number : ℕ
  pub buffer : List ℕ
  pub numbers : List ℕ

-- these, put together
unfoldable pub write_state : (number : ℕ) (buffer numbers : List ℕ) → Write
write_state number b ns = record { number = number; buffer = b; numbers = ns }

-- an answer beside a buffer
unfoldable pub answered_write : WrittenNumbers → (buffer : List ℕ) → Write
answered_write w b = write_state w.number b w.numbers

-- a book written into a buffer
unfoldable pub write_book : HeldBook → (buffer numbers : List ℕ) → Write
write_book h b ns = answered_write (stored_written (write_answer (write h b)) ns) (written h b).value.buffer

-- a write that fits is answered, any other call returns 255 and changes nothing
unfoldable pub called_write : (fits : Bool) → HeldBook → (buffer numbers : List ℕ) → Write
called_write true h b ns = write_book h b ns
called_write false h b ns = write_state misused b ns

-- what was read is written; a refused read answers the length 0, and the buffer stays
unfoldable pub rewritten : Verdict → Book → (buffer numbers : List ℕ) → Write
rewritten (Ok u) k b ns = write_book (held_book k) b ns
rewritten (Err r) k b ns =
    answered_write (stored_written (record { length = 0; verdict = Err r }) ns) b

-- a call that fits is answered, any other returns 255 and changes nothing
unfoldable pub called_rewrite : (fits : Bool) → Read → (buffer numbers : List ℕ) → Write
called_rewrite true a b ns = rewritten a.verdict a.book b ns
called_rewrite false a b ns = write_state misused b ns
