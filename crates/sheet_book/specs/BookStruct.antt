-- Books in memory: the held book that a struct holds, and the struct that holds a held book; answers likewise.
use Rattle.std.specs.Prelude.{List, map, ℕ, pos, length, replicate}
use Rattle.calculus.specs.Model.{most_terms}
use Rattle.calculus.specs.Refusal.{Result, done, stopped}
use Rattle.calculus.specs.Book.{most_models, most_steps}
use Rattle.model_types.specs.declared.Term.{Term}
use Rattle.model_types.specs.declared.Model.{Model}
use Rattle.model_types.specs.ModelStruct.{Verdict}
use Rattle.std.specs.Prelude.{Ok, Err}
use Rattle.model_types.specs.ModelStruct.{refused_at}
use Rattle.model_types.specs.Arrays.{first_places, padded}
-- the verdict of a result
unfoldable pub use Rattle.model_types.specs.ModelStruct.{verdict}
use Rattle.model_types.specs.ModelStruct.{zero_term, places, listed, of_terms, pad, refusal}
use Rattle.format.specs.HeldBook.{HeldTerm, HeldModel, HeldStep, HeldBook, zero_book, held_tested}
use Rattle.sheet_book.specs.declared.Step.{Step}
use Rattle.sheet_book.specs.declared.Book.{Book}
use Rattle.sheet_book.specs.declared.Read.{Read}
use Rattle.sheet_book.specs.declared.Written.{Written}

-- what stands in a model's place that is not used
abbrev pub no_model : Model
no_model = of_terms 0 0 0 (replicate most_terms zero_term)

-- and in a step's
abbrev pub no_step : Step
no_step = record { code = 0; a = 0; b = 0; v = 0; value = pos 0 }

-- ---- the held book that a struct holds
-- a term
unfoldable pub held_term : Term → HeldTerm
held_term t = record { key = t.key; coefficient = t.coefficient }

-- a model: places beyond the count are not looked at
unfoldable pub held_model : Model → HeldModel
held_model m = record { n = m.n; radius = m.radius; terms = map held_term (places m.count (listed m)) }

-- a step
unfoldable pub held_step : Step → HeldStep
held_step s = record { code = s.code; a = s.a; b = s.b; v = s.v; value = s.value }

-- a book: places beyond the counts are not looked at
unfoldable pub held_book : Book → HeldBook
held_book b = record {
  n = b.n;
  d = b.d;
  models = map held_model (first_places no_model b.model_count b.models);
  steps = map held_step (first_places no_step b.step_count b.steps);
}

-- ---- the struct that holds a held book
-- a term
unfoldable pub stored_term : HeldTerm → Term
stored_term t = record { key = t.key; coefficient = t.coefficient }

-- a model: places beyond the count hold zeros
unfoldable pub stored_model : HeldModel → Model
stored_model m = of_terms m.n (length m.terms) m.radius (pad (map stored_term m.terms))

-- a step
unfoldable pub stored_step : HeldStep → Step
stored_step s = record { code = s.code; a = s.a; b = s.b; v = s.v; value = s.value }

-- a book: places beyond the counts hold zeros
unfoldable pub stored_book : HeldBook → Book
stored_book h = record {
  n = h.n;
  d = h.d;
  model_count = length h.models;
  step_count = length h.steps;
  models = padded no_model most_models (map stored_model h.models);
  steps = padded no_step most_steps (map stored_step h.steps);
}

-- ---- answers
-- the verdict of a book's tests 3, 5 and 6
unfoldable pub book_verdict : Book → Verdict
book_verdict b = verdict (held_tested (held_book b) (done (held_book b)))

-- what a read answers: with a refusal the book of zeros
unfoldable pub read_answer : Result HeldBook → Read
read_answer (done h) = record { book = stored_book h; verdict = Ok tt }
read_answer (stopped r i) = record { book = stored_book zero_book; verdict = Err (refused_at (refusal r) i) }

-- what a write answers: with a refusal the length 0
unfoldable pub write_answer : Result (List ℕ) → Written
write_answer (done s) = record { length = length s; verdict = Ok tt }
write_answer (stopped r i) = record { length = 0; verdict = Err (refused_at (refusal r) i) }
