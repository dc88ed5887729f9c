-- The answer of an operation renamed, and chains of answers: what is accepted goes on renamed, a refusal stays.
use Rattle.std.specs.Prelude.{◌≡◌, Bool, ℕ}
use Rattle.std.proofs.Math.Path.{refl}
use Rattle.std.proofs.Math.Bool.{true, false}
use Rattle.calculus.specs.Model.{Model}
use Rattle.calculus.specs.Refusal.{Refusal, Answer, accepted, refused, require, ◌then◌}
use Rattle.calculus_laws.specs.RefusalLaws.{IfAccepted, holds}
use Rattle.renaming.specs.Reordering.{Reordering, rename_model}

module _ {n : ℕ} (ρ : Reordering n) where
  -- a refusal stays
  unfoldable pub rename_answer : Answer Model → Answer Model
  rename_answer (accepted m) = accepted (rename_model ρ m)
  rename_answer (refused r) = refused r

  pub then_renamed : {P : Model → Type 0} (a : Answer Model) (f f' : Model → Answer Model) → IfAccepted P a
      → ((m : Model) → P m → f' (rename_model ρ m) ≡ rename_answer (f m))
      → (rename_answer a then f') ≡ rename_answer (a then f)
  unfolding rename_answer ◌then◌
  then_renamed (accepted m) f f' (holds h) e = e m h
  then_renamed (refused r) f f' h e = refl

  pub require_renamed : (b : Bool) (r : Refusal) (a : Answer Model)
      → require b r (rename_answer a) ≡ rename_answer (require b r a)
  unfolding require rename_answer
  require_renamed true r a = refl
  require_renamed false r a = refl
