-- The record at a place of a sheet: what it is, how long it is, its bytes, and where the next one stands.
use Rattle.std.specs.Prelude.{cond, List, ℕ, ◌+◌, ◌-◌, min, ltb, length, take, drop}
use Rattle.format.specs.Format.{step_length, trailer_length, model_length, trailer_of, read_trailer}
use Rattle.sheet_book.specs.declared.Kind.{Kind}
use Rattle.sheet_book.specs.declared.Kind.TheVariants.{Model, Step, End}

-- where the first step stands, by the trailer
unfoldable pub first_step : List ℕ → ℕ
first_step s = (read_trailer (trailer_of s)).offset

-- how many variables there are, by the trailer
unfoldable pub vars_of : List ℕ → ℕ
vars_of s = (read_trailer (trailer_of s)).n

-- how long the record at a place should be: a model's length is found by its term count
unfoldable pub record_size : List ℕ → (at : ℕ) → ℕ
record_size s at = cond (ltb at (first_step s)) (model_length (vars_of s) (drop at s)) step_length

-- how long it is: no record reaches into the trailer, and from the trailer on there is none
unfoldable pub length_at : List ℕ → (at : ℕ) → ℕ
length_at s at = min (record_size s at) (length s - trailer_length - at)

-- where the next one stands: the place itself where there is none
unfoldable pub next_at : List ℕ → (at : ℕ) → ℕ
next_at s at = at + length_at s at

-- its bytes: empty where there is none
unfoldable pub bytes_at : List ℕ → (at : ℕ) → List ℕ
bytes_at s at = take (length_at s at) (drop at s)

-- whether it is a model or a step
unfoldable pub kind_at : List ℕ → (at : ℕ) → Kind
kind_at s at = cond (ltb at (length s - trailer_length)) (cond (ltb at (first_step s)) Model Step) End
