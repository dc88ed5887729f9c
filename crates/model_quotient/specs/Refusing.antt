-- An answer that refuses as a verdict does.
use Rattle.std.specs.Prelude.{◌≡◌, ℕ}
use Rattle.calculus.specs.Refusal.{stopped}
use Rattle.model_types.specs.declared.Refusal.{Refusal}
use Rattle.model_types.specs.ModelStruct.{Verdict}
use Rattle.std.specs.Prelude.{Err}
use Rattle.model_types.specs.ModelStruct.{refused_at}
use Rattle.model_types.specs.declared.Answer.{Answer}
use Rattle.model_types.specs.ModelStruct.{answer, cause}

-- with the same cause and place, if it refuses
pub record Refuses (v : Verdict) (r : Answer) : Type 0 where
  pub refuses : (x : Refusal) (y : ℕ) → v ≡ Err (refused_at x y) → r ≡ answer (stopped (cause x) y)
