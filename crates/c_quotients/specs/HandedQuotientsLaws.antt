-- What a quotient that fits has.
use Rattle.std.specs.Prelude.{◌≡◌, true, ℕ, ◌≤◌, leb}
use Rattle.std.proofs.Common.{sym, subst}
use Rattle.std.proofs.Math.Dec.{T, leb→le}
use Rattle.calculus.specs.Model.{most_terms}
use Rattle.calculus_laws.specs.TestLaws.{and_left, and_right}
use Rattle.model_slices.specs.HandedModels.{answer_numbers, model_room}
use Rattle.model_slices.specs.HandedModelsLaws.{room_parts}
use Rattle.c_quotients.specs.HandedQuotients.{quotient_models, quotient_fits}

module _ (models k z n : ℕ) (h : quotient_fits models (model_room k z n) ≡ true) where
  pub fits_models : quotient_models ≤ models
  unfolding quotient_fits
  fits_models =
      leb→le quotient_models models
      (and_left (leb quotient_models models) (model_room k z n) (subst T (sym h) tt))

  pub fits_answer : (most_terms ≤ k) × (most_terms ≤ z) × (answer_numbers ≤ n)
  unfolding quotient_fits
  fits_answer = room_parts k z n (and_right (leb quotient_models models) (model_room k z n) (subst T (sym h) tt))
