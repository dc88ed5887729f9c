-- What storing answers, as a struct.
use Rattle.std.specs.Prelude.{List, ℕ, length}
use Rattle.calculus.specs.Refusal.{Result, done, stopped}
use Rattle.std.specs.Prelude.{Ok, Err}
use Rattle.model_types.specs.ModelStruct.{refused_at}
use Rattle.model_types.specs.ModelStruct.{refusal}
use Rattle.model_archive.specs.declared.Stored.{Stored}

-- with a refusal the length 0
unfoldable pub store_answer : Result (List ℕ) → Stored
store_answer (done s) = record { length = length s; verdict = Ok tt }
store_answer (stopped r i) = record { length = 0; verdict = Err (refused_at (refusal r) i) }
