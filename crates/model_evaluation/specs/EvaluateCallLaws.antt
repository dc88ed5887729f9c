-- The call of an evaluation is its tests, followed by the operation.
use Rattle.std.specs.Prelude.{◌≡◌, List, ℤ, take}
use Rattle.std.proofs.Common.{sym, ◌∙◌, ap}
use Rattle.calculus.specs.Model.{Model, most_degree, sound}
use Rattle.calculus.specs.Refusal.{at_place, require_at, ◌followed_by◌}
use Rattle.calculus_laws.specs.RefusalLaws.{at_followed}
use Rattle.calculus.specs.Operations as Op
use Rattle.calculus.specs.Calls.{call_evaluate}
use Rattle.model_call_tests.specs.Admission.{at_point}

pub evaluate_is : (f : Model) (Xs : List ℤ)
    → call_evaluate Xs f ≡ (at_point Xs f followed_by (λ u. at_place 0 (Op.evaluate (take f.vars Xs) f)))
unfolding call_evaluate at_point ◌followed_by◌
evaluate_is f Xs = sym (at_followed 0 _ _ _ _ ∙ ap (require_at 0 (sound most_degree f) _)
    (at_followed 0 _ _ _ _ ∙ ap (require_at 0 _ _) (at_followed 0 _ _ _ _)))
