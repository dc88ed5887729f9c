-- `exact` divides the parts once; the ends are 2^n times the radius around the quotient, all within 2^n times the
-- span.
use mathlib.Core.Path.{◌≡◌, refl, ◌∙◌, ap, ap₂}
use Prim.Native.Nat.{ℕ, ◌+◌, ◌*◌, ◌^◌, ◌≤◌, ◌<◌}
use native.Mathlib.Nat as NatL
use native.Mathlib.Omega.{arith}
use borrow.Author.Rules.{rules}
use lib.IntN.{ℤ, pos, nat_abs, ◌+ℤ◌, ◌-ℤ◌}
use mir.Syntax.{w64}
use mir.Val.{to_z, of_z}
use Rattle.algebra.specs.Integer.{natAbs_add}
use Rattle.numbers.specs.Division.{floor, remainder}
use Rattle.numbers.specs.Fixed.{span_limit}
use Rattle.numbers.proofs.FixedLaws.{span_fits}
use Rattle.fixed.specs.MachineLaws.{answered}
use Rattle.calculus.specs.Terms.{size}
use Rattle.calculus.specs.Model.{Model, span}
use Rattle.calculus.specs.Operations.{common_denominator, integral_parts, mixed_part, one_if_any, exact_ends}
use Rattle.model_types.specs.ModelStruct.{view, integral_answer}
use Rattle.model_types.specs.ModelStructLaws.{limits}
use Rattle.model_slices.specs.HeldModels.{held}
use Rattle.model_integral.specs.IntegralParts.{most_parts, exact_integral}
use Rattle.model_integral.specs.IntegralPartsLaws.{volume_le, parts_within, scaled_within, quotient_within}
use Rattle.model_integral.specs.IntegralPartsLaws.{one_at_most}
use Rattle.model_integral.specs.IntegralTerms.{TermsIn}
use Rattle.model_integral.specs.IntegralPassLaws as L
use Rattle.model_integral.proofs.exact.Goals as goal
use Rattle.model_integral.proofs.exact.Goals.{After-floor_divided-quotient, After-integral_parts-total, After-rest-remainder, After-signed-above, After-signed-around, After-sum, After-volume, Start}

module _ (c : Start) where
  abbrev lying : TermsIn c.args.n c.args.count c.args.keys.now c.args.coefficients.now
  lying = record { radius = c.args.radius; places = c.requires.places; model = c.requires.t }

  abbrev seen : Model
  seen = view (held c.args.n c.args.count c.args.radius c.args.keys.now c.args.coefficients.now)

  small : span seen ≤ span_limit
  small = (limits _ _ c.requires.t).small

  abbrev q : ℤ
  q = floor (integral_parts seen) common_denominator

  abbrev wide : ℕ
  wide = 2 ^ c.args.n * c.args.radius

  few_parts : nat_abs (integral_parts seen) ≤ most_parts
  unfolding view held span
  few_parts = NatL.le_trans (parts_within seen)
      (scaled_within c.args.n (size seen.terms) c.requires.n_bound (omega (arith, small)))

  room : nat_abs q + wide + 1 < 2 ^ 63
  unfolding view held
  room = omega (
    arith,
    quotient_within seen,
    span_fits,
    NatL.mul-le-mul small (volume_le c.args.n c.requires.n_bound),
  )

-- the sum, its quotient and remainder
total : (c : After-integral_parts-total) → to_z w64 (of_z w64 c.integral_parts-total.result)
    ≡ integral_parts (seen c.before.before.before)
total c = answered c.integral_parts-total.type_inv (c.integral_parts-total.ensures (lying c.before.before.before))

quotient : (c : After-floor_divided-quotient) → to_z w64 (of_z w64 c.floor_divided-quotient.result) ≡ q
    c.before.before.before.before
unfolding common_denominator
quotient c = answered c.floor_divided-quotient.type_inv
    (c.floor_divided-quotient.ensures ∙ ap (λ z. floor z common_denominator)
    (total (goal.at.rest-remainder-requires c).After-integral_parts-total))

above : (c : After-rest-remainder) → c.rest-remainder.result
    ≡ remainder (integral_parts (seen c.before.before.before.before.before)) common_denominator
above c = c.rest-remainder.ensures ∙ ap (λ z. remainder z common_denominator)
    (total (goal.at.volume-requires c).After-integral_parts-total)

-- 2^n times the radius, and 1 if there is a remainder
product : (c : After-volume)
    → c.volume.result * c.args.radius
    ≡ wide c.before.before.before.before.before.before
product c = ap (λ v. v * c.args.radius) c.volume.ensures

around : (c : After-signed-around) → to_z w64 (of_z w64 c.signed-around.result)
    ≡ pos (wide c.before.before.before.before.before.before.before)
around c = answered c.signed-around.type_inv (c.signed-around.ensures
    ∙ ap pos (product (goal.at.one_if_any-requires c).After-volume))

one : (c : After-signed-above) → to_z w64 (of_z w64 c.signed-above.result)
    ≡ pos (one_if_any c.rest-remainder.result)
one c = answered c.signed-above.type_inv (c.signed-above.ensures ∙ ap pos c.one_if_any.ensures)

-- the high end without it
sum : (c : After-sum) → to_z w64 (of_z w64 c.sum.result)
    ≡ q c.before.before.before.before.before.before.before.before.before.before.before
    +ℤ pos (wide c.before.before.before.before.before.before.before.before.before.before.before)
sum c =
    answered c.sum.type_inv
    (c.sum.ensures ∙ ap₂ ◌+ℤ◌ (quotient (goal.at.sum-high-requires c).After-floor_divided-quotient)
    (around (goal.at.sum-high-requires c).After-signed-around))

pub integral_parts-total-requires : goal.integral_parts-total-requires
integral_parts-total-requires c = record {
  terms_in = lying (goal.at.integral_parts-total-requires c).Start;
  n_bound = c.requires.n_bound;
}

pub rest-remainder-requires : goal.rest-remainder-requires
rest-remainder-requires c = rw (quotient c, total (goal.at.rest-remainder-requires c).After-integral_parts-total)
    (few_parts (goal.at.rest-remainder-requires c).Start, refl)

pub volume-requires : goal.volume-requires
volume-requires c =
    let w = lying (goal.at.volume-requires c).Start in
    (L.some w, L.width w)

pub overflow_mul-volume : goal.overflow_mul-volume
overflow_mul-volume c = omega (arith, product c, room (goal.at.overflow_mul-volume c).Start)

pub signed-around-requires : goal.signed-around-requires
signed-around-requires c = omega (arith, product c, room (goal.at.signed-around-requires c).Start)

pub signed-above-requires : goal.signed-above-requires
signed-above-requires c =
    omega (arith, c.one_if_any.ensures, one_at_most c.rest-remainder.result)

pub difference-low-requires : goal.difference-low-requires
difference-low-requires c =
    rw (
      quotient (goal.at.difference-low-requires c).After-floor_divided-quotient,
      around (goal.at.difference-low-requires c).After-signed-around,
    )
    (omega (arith, room (goal.at.difference-low-requires c).Start))

pub sum-requires : goal.sum-requires
sum-requires c =
    rw (
      quotient (goal.at.sum-requires c).After-floor_divided-quotient,
      around (goal.at.sum-requires c).After-signed-around,
    )
    (omega (arith, room (goal.at.sum-requires c).Start))

pub sum-high-requires : goal.sum-high-requires
sum-high-requires c =
    rw (sum c, one (goal.at.sum-high-requires c).After-signed-above)
    (omega (
      arith,
      room (goal.at.sum-high-requires c).Start,
      natAbs_add (q (goal.at.sum-high-requires c).Start) (pos (wide (goal.at.sum-high-requires c).Start)),
      one_at_most c.rest-remainder.result,
    ))

pub returns : goal.returns
unfolding integral_answer exact_integral exact_ends mixed_part view held
returns c =
    rw (
      answered c.difference-low.type_inv
          (c.difference-low.ensures ∙ ap₂ ◌-ℤ◌ (quotient (goal.at.returns c).After-floor_divided-quotient)
          (around (goal.at.returns c).After-signed-around)),
      answered c.sum-high.type_inv
          (c.sum-high.ensures
          ∙ ap₂ ◌+ℤ◌ (sum (goal.at.returns c).After-sum) (one (goal.at.returns c).After-signed-above
          ∙ ap (λ c. pos (one_if_any c)) (above (goal.at.returns c).After-rest-remainder))),
      quotient (goal.at.returns c).After-floor_divided-quotient,
      above (goal.at.returns c).After-rest-remainder,
    )

pub one_if_any-requires : goal.one_if_any-requires
one_if_any-requires c = search rules
