-- `term_by_term` is the sum rounded down or up, minus or plus 2^n times the radius; all is within 2^n times the span.
use mathlib.Core.Path.{◌≡◌, ◌∙◌, ap, ap₂}
use mathlib.Core.Bool.{Bool, true, false}
use Prim.Native.Nat.{◌+◌, ◌*◌, ◌^◌, ◌<◌}
use native.Mathlib.Omega.{arith}
use lib.IntN.{pos, nat_abs, ◌+ℤ◌, ◌-ℤ◌}
use mir.Syntax.{w64}
use mir.Val.{to_z, of_z}
use Rattle.fixed.specs.MachineLaws.{answered}
use Rattle.calculus.specs.Model.{Model}
use Rattle.calculus.specs.Operations.{integral_sum, term_by_term}
use Rattle.model_types.specs.ModelStruct.{view, bounds}
use Rattle.model_types.specs.ModelStructLaws.{limits}
use Rattle.model_slices.specs.HeldModels.{held}
use Rattle.model_integral.specs.Rounding.{rule}
use Rattle.model_integral.specs.IntegralSizeLaws.{integral_within, scaled_fits}
use Rattle.model_integral.specs.IntegralTerms.{TermsIn}
use Rattle.model_integral.specs.IntegralPassLaws as L
use Rattle.model_integral.proofs.term_by_term.Goals as goal
use Rattle.model_integral.proofs.term_by_term.Goals.{After-integral_sum, After-integral_sum-2, After-signed-around, After-volume, Start}

module _ (c : Start) where
  abbrev lying : TermsIn c.args.n c.args.count c.args.keys.now c.args.coefficients.now
  lying = record { radius = c.args.radius; places = c.requires.places; model = c.requires.t }

  abbrev seen : Model
  seen = view (held c.args.n c.args.count c.args.radius c.args.keys.now c.args.coefficients.now)

  room : (up : Bool) → nat_abs (integral_sum (rule up) seen) + 2 ^ c.args.n * c.args.radius < 2 ^ 63
  unfolding view held
  room up =
      omega (arith, integral_within up seen, scaled_fits _ _ (L.width lying) (limits _ _ c.requires.t).small)

-- 2^n times the radius
product : (c : After-volume) → c.volume.result * c.args.radius
    ≡ 2 ^ c.args.n * c.args.radius
product c = ap (λ v. v * c.args.radius) c.volume.ensures

around : (c : After-signed-around) → to_z w64 (of_z w64 c.signed-around.result)
    ≡ pos (2 ^ c.args.n * c.args.radius)
around c = answered c.signed-around.type_inv (c.signed-around.ensures
    ∙ ap pos (product (goal.at.integral_sum-requires c).After-volume))

-- the two sums
lower : (c : After-integral_sum) → to_z w64 (of_z w64 c.integral_sum.result)
    ≡ integral_sum (rule false) (seen c.before.before.before.before.before)
lower c =
    answered c.integral_sum.type_inv (c.integral_sum.ensures (lying c.before.before.before.before.before))

upper : (c : After-integral_sum-2) → to_z w64 (of_z w64 c.integral_sum-2.result)
    ≡ integral_sum (rule true) (seen c.before.before.before.before.before.before.before)
upper c =
    answered c.integral_sum-2.type_inv
    (c.integral_sum-2.ensures (lying c.before.before.before.before.before.before.before))

pub volume-requires : goal.volume-requires
volume-requires c = let w = lying (goal.at.volume-requires c).Start in (L.some w, L.width w)

pub overflow_mul-volume : goal.overflow_mul-volume
overflow_mul-volume c = omega (arith, product c, room (goal.at.overflow_mul-volume c).Start true)

pub signed-around-requires : goal.signed-around-requires
signed-around-requires c = omega (arith, product c, room (goal.at.signed-around-requires c).Start true)

pub integral_sum-requires : goal.integral_sum-requires
integral_sum-requires c = lying (goal.at.integral_sum-requires c).Start

pub difference-requires : goal.difference-requires
difference-requires c = rw (lower c, around (goal.at.difference-requires c).After-signed-around)
    (room (goal.at.difference-requires c).Start false)

pub integral_sum-requires-2 : goal.integral_sum-requires-2
integral_sum-requires-2 c = lying (goal.at.integral_sum-requires-2 c).Start

pub sum-requires : goal.sum-requires
sum-requires c =
    rw (upper c, around (goal.at.sum-requires c).After-signed-around) (room (goal.at.sum-requires c).Start true)

pub returns : goal.returns
unfolding rule term_by_term view held bounds
returns c =
    rw (
      answered c.difference.type_inv (c.difference.ensures
          ∙ ap₂ ◌-ℤ◌ (lower (goal.at.returns c).After-integral_sum) (around (goal.at.returns c).After-signed-around)),
      answered c.sum.type_inv (c.sum.ensures ∙ ap₂ ◌+ℤ◌ (upper (goal.at.returns c).After-integral_sum-2)
          (around (goal.at.returns c).After-signed-around)),
    )
