-- Each call is its tests, followed by its operation.
use Rattle.std.specs.Prelude.{◌≡◌, ℕ, ℤ, nat_abs}
use Rattle.std.proofs.Math.Path.{sym, ap}
use Rattle.std.proofs.Common.{◌∙◌}
use Rattle.calculus.specs.Model.{Model, most_degree, sound}
use Rattle.calculus.specs.Refusal.{done, at_place, require_at, ◌followed_by◌}
use Rattle.calculus.specs.Operations as Op
use Rattle.calculus.specs.Tests.{order_sound}
use Rattle.calculus.specs.Calls.{require_two, call_negate, call_sweep, call_range, call_integral}
use Rattle.calculus.specs.Calls.{call_antiderivative, call_add, call_subtract, call_substitute}
use Rattle.calculus.specs.Calls.{call_quotient}
use Rattle.model_call_tests.specs.Admission.{single_model, sweeping, integrating, two_models}
use Rattle.model_call_tests.specs.Admission.{substituting, dividing}
use Rattle.calculus_laws.specs.RefusalLaws.{at_followed}
use Rattle.model_call_tests.specs.AdmissionLaws.{two_followed, four_followed}
pub use Rattle.product_calls.specs.MultiplyCallLaws.{multiply_is}

-- ---- of one model
module _ (f : Model) where
  pub negate_is : call_negate f ≡ (single_model f followed_by (λ u. done (Op.negate f)))
  unfolding call_negate single_model ◌followed_by◌
  negate_is = sym (at_followed 0 _ _ _ _)

  pub range_is : call_range f ≡ (single_model f followed_by (λ u. done (Op.range f)))
  unfolding call_range single_model ◌followed_by◌
  range_is = sym (at_followed 0 _ _ _ _)

  pub integral_is : call_integral f ≡ (single_model f followed_by (λ u. done (Op.whole_integral f)))
  unfolding call_integral single_model ◌followed_by◌
  integral_is = sym (at_followed 0 _ _ _ _)

  pub sweep_is : (t : ℤ) → call_sweep t f ≡ (sweeping t f followed_by (λ u. done (Op.sweep (nat_abs t) f)))
  unfolding call_sweep sweeping ◌followed_by◌
  sweep_is t = sym (at_followed 0 _ _ _ _ ∙ ap (require_at 0 (sound most_degree f) _) (at_followed 0 _ _ _ _))

  pub antiderivative_is : (d i : ℕ)
      → call_antiderivative d i f ≡ (integrating d i f followed_by (λ u. done (Op.antiderivative d i f)))
  unfolding call_antiderivative integrating ◌followed_by◌
  antiderivative_is d i = sym (at_followed 0 _ _ _ _ ∙ ap (require_at 0 (order_sound d) _)
      (at_followed 0 _ _ _ _ ∙ ap (require_at 0 (sound d f) _) (at_followed 0 _ _ _ _)))

-- ---- of two
module _ (f g : Model) where
  pub add_is : call_add f g ≡ (two_models most_degree f g followed_by (λ u. at_place 0 (Op.add f g)))
  unfolding call_add two_models ◌followed_by◌
  add_is = sym (two_followed most_degree f g _ _)

  pub subtract_is : call_subtract f g ≡ (two_models most_degree f g followed_by (λ u. at_place 0 (Op.subtract f g)))
  unfolding call_subtract two_models ◌followed_by◌
  subtract_is = sym (two_followed most_degree f g _ _)

  pub substitute_is : (d i : ℕ)
      → call_substitute d i f g ≡ (substituting d i f g followed_by (λ u. at_place 0 (Op.substitute d i f g)))
  unfolding call_substitute substituting ◌followed_by◌
  substitute_is d i = sym (at_followed 0 _ _ _ _ ∙ ap (require_at 0 (order_sound d) _)
      (two_followed d f g _ _ ∙ ap (require_two d f g) (at_followed 0 _ _ _ _)))

-- ---- of four
pub quotient_is : (d : ℕ) (f g h w : Model)
    → call_quotient d f g h w ≡ (dividing d f g h w followed_by (λ u. at_place 0 (Op.quotient d f g h w)))
unfolding call_quotient dividing ◌followed_by◌
quotient_is d f g h w =
    sym (at_followed 0 _ _ _ _ ∙ ap (require_at 0 (order_sound d) _) (four_followed d f g h w _ _))
