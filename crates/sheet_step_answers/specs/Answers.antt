-- The answer of a step that cannot be refused.
use Rattle.model_types.specs.declared.Model.{Model}
use Rattle.std.specs.Prelude.{Ok}
use Rattle.model_types.specs.declared.Answer.{Answer}

-- a model that is not refused
abbrev pub accepted_answer : Model → Answer
accepted_answer m = record { model = m; verdict = Ok tt }
