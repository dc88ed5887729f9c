-- The shares of a sweep, by the old and the new radius.
use Rattle.std.specs.Prelude.{◌≡◌, refl, ℕ, ◌+◌, ◌-◌, ◌≤◌, T}
use Rattle.std.proofs.Common.{◌∙◌}
use Rattle.std.proofs.Math.Path.{ap}
use native.Mathlib.Omega.{arith}
use Rattle.std.proofs.Math.IntN.{nat_abs}
use Rattle.numbers.specs.Fixed.{span_limit}
use Rattle.calculus.specs.Terms.{size, select}
use Rattle.calculus.specs.Model.{most_degree, sound, span}
use Rattle.calculus.specs.Operations.{is_small, sweep}
use Rattle.calculus.specs.Shares.{grown, sweep_shares}
use Rattle.model_types.specs.declared.Model.{Model}
use Rattle.model_types.specs.ModelStruct.{view, pack}
use Rattle.model_types.specs.ModelStructLaws.{limits, sum_select_le}

module _ (t : ℕ) (m : Model) {r : Model} (e : r ≡ pack (sweep t (view m))) where
  -- the new radius is the old one and what was dropped
  radius_is : r.radius ≡ m.radius + size (select (is_small t) (view m).terms)
  radius_is = ap (λ (r : Model). r.radius) e ∙ (unfold pack sweep view in refl)

  pub radius_grows : m.radius ≤ r.radius
  radius_grows = omega (arith, radius_is)

  pub growth_fits : T (sound most_degree (view m)) → m.radius + 0 + (r.radius - m.radius) ≤ span_limit
  unfolding span size view
  growth_fits h = omega (
    arith,
    radius_is,
    sum_select_le (λ k c. nat_abs c) (is_small t) (view m).terms,
    (limits most_degree m h).small,
  )

  pub growth_shares : grown m.radius 0 (r.radius - m.radius) ≡ sweep_shares t (view m)
  unfolding sweep_shares view
  growth_shares = ap (grown m.radius 0) (omega (arith, radius_is))
