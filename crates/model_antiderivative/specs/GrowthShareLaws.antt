-- What a model grows by in an antiderivative, summed term by term: by rounding, and the rest by being swept.
use Rattle.std.specs.Prelude.{◌≡◌, refl, ℕ, ◌+◌, ◌-◌, ◌≤◌, ◌<◌, length}
use Rattle.std.proofs.Common.{sym, ◌∙◌, ap}
use Rattle.std.proofs.Math.Path.{ap₂}
use native.Mathlib.Omega.{arith}
use Rattle.std.proofs.Math.IntN.{nat_abs}
use Rattle.numbers.specs.Fixed.{span_limit}
use Rattle.calculus.specs.Terms.{sum_over, sum_ℕ, size}
use Rattle.calculus_laws.specs.SumLaws.{ℕ_addition, sum_mono}
use Rattle.calculus.specs.Model.{span}
use Rattle.calculus.specs.Operations.{growth_rounding, growth_swept, antiderivative}
use Rattle.calculus.specs.Shares.{grown, antiderivative_shares}
use Rattle.calculus_laws.specs.GrowthLaws.{rounding_of, growth_of_le, rounding_sum, growth_le}
use Rattle.model_types.specs.declared.Model.{Model}
use Rattle.model_types.specs.ModelStruct.{view, pack, listed}
use Rattle.model_types.specs.ModelStructLaws.{view_terms, sum_more, read_within_span, limits}
use Rattle.model_antiderivative.specs.Antiderivatives.{key_rounding, Integrand}
use Rattle.model_antiderivative.specs.PassLaws.{before, at, rounding_at}

-- the sum over the terms before j
pub record Rounded (d i : ℕ) (f : Model) (sum j : ℕ) : Type 0 where
  pub within : j ≤ f.count
  pub summed : sum ≡ sum_ℕ (rounding_of d i) (before f j)

module _ {d i : ℕ} {f : Model} (s : Integrand d i f) (w : f.count ≤ length (listed f)) where
  pub rounded_first : Rounded d i f 0 0
  unfolding sum_over
  rounded_first = record { within = omega arith; summed = omega arith }

  module _ {sum j : ℕ} (g : Rounded d i f sum j) where
    module _ (h : j < f.count) where
      next_sum : sum + key_rounding d i (at f j).key (at f j).coefficient ≡ sum_ℕ (rounding_of d i) (before f (j + 1))
      next_sum = omega (
        arith,
        g.summed,
        rounding_at s w j h,
        sum_more f.n j (listed f) (omega arith) ℕ_addition (rounding_of d i),
      )

      -- it stays within the span
      pub rounded_within : sum + key_rounding d i (at f j).key (at f j).coefficient ≤ span (view f)
      unfolding size
      rounded_within = omega (
        arith,
        next_sum,
        sum_mono (rounding_of d i) (λ k c. nat_abs c) (λ k c. omega (arith, growth_of_le d i k c)) (before f (j + 1)),
        read_within_span f (j + 1) w (omega arith),
      )

      pub rounded_iteration : {r : ℕ} → r ≡ sum + key_rounding d i (at f j).key (at f j).coefficient
          → Rounded d i f r (j + 1)
      rounded_iteration e = record { within = omega arith; summed = e ∙ next_sum }

    pub rounded_end : f.count ≤ j → sum ≡ growth_rounding d i (view f)
    rounded_end l =
        let e : j ≡ f.count = omega (arith, g.within) in
        g.summed ∙ ap (λ p. sum_ℕ (rounding_of d i) p) (ap (before f) e ∙ sym (view_terms f w))
        ∙ sym (rounding_sum d i (view f))

-- ---- the shares of what it grew by
module _ {d i : ℕ} {f : Model} (s : Integrand d i f) where
  module _ {m : Model} {r : ℕ} (e : m ≡ pack (antiderivative d i (view f))) (h : r ≡ growth_rounding d i (view f)) where
    radius_is : m.radius ≡ f.radius + growth_rounding d i (view f) + growth_swept d i (view f)
    radius_is = ap (λ (m : Model). m.radius) e ∙ (unfold pack antiderivative view in refl)

    pub radius_grows : f.radius ≤ m.radius
    radius_grows = omega (arith, radius_is)

    pub growth_covers : r ≤ m.radius - f.radius
    growth_covers = omega (arith, radius_is, h)

    pub growth_fits : f.radius + r + (m.radius - f.radius - r) ≤ span_limit
    unfolding span view
    growth_fits = omega (arith, radius_is, h, growth_le d i (view f), (limits d f s.model).small)

    pub growth_shares : grown f.radius r (m.radius - f.radius - r) ≡ antiderivative_shares d i (view f)
    unfolding antiderivative_shares view
    growth_shares = ap₂ (grown f.radius) h (omega (arith, radius_is, h))
