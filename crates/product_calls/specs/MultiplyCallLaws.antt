-- The call `multiply` is its tests, followed by the product.
use Rattle.std.specs.Prelude.{◌≡◌, ℕ}
use Rattle.std.proofs.Common.{sym, ◌∙◌, ap}
use Rattle.calculus.specs.Model.{Model}
use Rattle.calculus.specs.Refusal.{at_place, require_at, ◌followed_by◌}
use Rattle.calculus_laws.specs.RefusalLaws.{at_followed}
use Rattle.calculus.specs.Operations as Op
use Rattle.calculus.specs.Tests.{order_sound}
use Rattle.calculus.specs.Calls.{call_multiply}
use Rattle.model_call_tests.specs.Admission.{ordered}
use Rattle.model_call_tests.specs.AdmissionLaws.{two_followed}

pub multiply_is : (f g : Model) (d : ℕ)
    → call_multiply d f g ≡ (ordered d f g followed_by (λ u. at_place 0 (Op.multiply d f g)))
unfolding call_multiply ordered ◌followed_by◌
multiply_is f g d = sym (at_followed 0 _ _ _ _ ∙ ap (require_at 0 (order_sound d) _) (two_followed d f g _ _))
