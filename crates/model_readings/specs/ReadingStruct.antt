-- Readings in memory, and the struct of what is found of a row.
use Rattle.std.specs.Prelude.{List, [], ◌∷◌, ℕ, None, Some, Ok, Err}
use Rattle.std.specs.Prelude as S
use Rattle.std.proofs.Math.Option.{Option, none, some}
use Rattle.calculus.specs.Refusal.{Result, done, stopped}
use Rattle.readings.specs.Readings as R
use Rattle.readings.specs.Readings.{Found}
use Rattle.model_types.specs.declared.Reading.{Reading}
use Rattle.model_types.specs.declared.Finding.{Finding}
use Rattle.model_types.specs.ModelStruct.{refused_at, refusal}

-- the reading that a struct holds
abbrev pub view_reading : Reading → R.Reading
view_reading r = record { point = r.x; low = r.low; high = r.high }

-- what each case stands for: that there is none, or the number of the first contradicting reading
unfoldable pub reading_number : S.Option ℕ → Option ℕ
reading_number None = none
reading_number (Some i) = some i

-- and the case for each
unfoldable pub contradiction : Option ℕ → S.Option ℕ
contradiction none = None
contradiction (some i) = Some i

-- the struct of what is found: no contradiction beside a refusal
unfoldable pub finding : Found → Finding
finding (done o) = record { contradiction = contradiction o; verdict = Ok tt }
finding (stopped r i) = record { contradiction = None; verdict = Err (refused_at (refusal r) i) }
