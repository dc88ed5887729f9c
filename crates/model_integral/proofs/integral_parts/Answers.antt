-- `integral_parts` sums the parts of the terms whose exponents are all even.
use mathlib.Core.Path.{◌≡◌, sym, ◌∙◌, ap, ap₂}
use Prim.Native.Nat.{◌*◌, ◌/◌, ◌^◌, ◌<◌}
use native.Mathlib.Nat as NatL
use native.Mathlib.Omega.{arith}
use lib.IntN.{ℤ, pos, ◌+ℤ◌, ◌*ℤ◌}
use lib.ListN.{get_or}
use mir.Facts.{to_z-of_z}
use mir.Syntax.{w64}
use mir.Val.{to_z, of_z}
use Rattle.fixed.specs.MachineLaws.{answered}
use Rattle.calculus.specs.Terms.{size}
use Rattle.calculus.specs.Operations.{integral_parts, common_denominator}
use Rattle.model_types.specs.ModelStruct.{view}
use Rattle.model_keys.specs.Keys.{key_divisor}
use Rattle.model_slices.specs.HeldModels.{held}
use Rattle.model_integral.specs.IntegralParts.{most_parts}
use Rattle.model_integral.specs.IntegralPartsLaws.{parts_fit, volume_le, term_parts, terms_within, scaled_within}
use Rattle.model_integral.specs.IntegralTerms.{TermsIn}
use Rattle.model_integral.specs.IntegralPassLaws as L
use Rattle.model_integral.specs.IntegralPassLaws.{EvenSum, even_first, even_end, even_room, even_more, even_same}
use Rattle.model_integral.specs.IntegralPassLaws.{terms, terms_small, coefficient_small, powers, divisor_at}
use Rattle.model_integral.proofs.integral_parts.Goals as goal
use Rattle.model_integral.proofs.integral_parts.Goals.{then-all_even, else-all_even, After-c-1, Start}

pub volume-scale-requires : goal.volume-scale-requires
volume-scale-requires c = let w = c.requires.terms_in in (L.some w, L.width w)

pub loop-i-init : goal.loop-i-init
loop-i-init c w = even_first w _

-- the term at hand
module _ (c : After-c-1) where
  inside : c.loop-i.i < c.args.count
  inside = omega arith

  abbrev coefficient : ℤ
  coefficient = get_or c.args.coefficients.now c.loop-i.i (pos 0)

  read_back : to_z w64 (of_z w64 coefficient) ≡ coefficient
  read_back = to_z-of_z {w = w64} (record { sfits = c.c-1.given })

  -- the volume of the box
  scaled : c.volume-scale.result ≡ 2 ^ c.args.n
  scaled = c.volume-scale.ensures

  -- what it adds
  shared : (w : TermsIn c.args.n c.args.count c.args.keys.now c.args.coefficients.now)
      → to_z w64 (of_z w64 coefficient)
      *ℤ pos (c.volume-scale.result * (common_denominator / key_divisor (get_or c.args.keys.now c.loop-i.i 0)))
      ≡ term_parts c.args.n (powers w c.loop-i.i inside) coefficient
  shared w =
      ap₂ (λ z v. z *ℤ pos v) read_back (ap₂ (λ s v. s * (common_denominator / v)) scaled
      (sym (divisor_at w c.loop-i.i inside)))

pub parts-requires : goal.parts-requires
unfolding most_parts
parts-requires c = (
  omega (arith, scaled (goal.at.parts-requires c).After-c-1, volume_le _ c.requires.n_bound),
  rw (read_back (goal.at.parts-requires c).After-c-1)
      (omega (
        arith,
        parts_fit,
        NatL.mul-le-mul_right (16 * common_denominator)
            (coefficient_small c.requires.terms_in c.loop-i.i (inside (goal.at.parts-requires c).After-c-1)),
      )),
)

pub sum-total-requires : goal.sum-total-requires
sum-total-requires c =
    let w = c.requires.terms_in in
    rw (answered c.parts.type_inv c.parts.ensures ∙ shared (goal.at.sum-total-requires c).After-c-1 w)
    (omega (
      arith,
      parts_fit,
      even_room w (term_parts c.args.n) (c.loop-i.invariant w) (inside (goal.at.sum-total-requires c).After-c-1),
      terms_within c.args.n (terms w),
      scaled_within c.args.n (size (terms w)) c.requires.n_bound (terms_small w),
    ))

pub loop-i-preserved : goal.loop-i-preserved
loop-i-preserved c w =
    let at = (goal.at.loop-i-preserved c).After-c-1 in
    elim c.if-all_even.branch [
      | then-all_even u ↦
          even_more w _ (c.loop-i.invariant w) (inside at) (sym c.all_even.ensures ∙ u.if-all_even.true)
          (u.total-is ∙ answered u.sum-total.type_inv (u.sum-total.ensures
          ∙ ap (λ z. to_z w64 c.loop-i.total-bits +ℤ z) (answered u.parts.type_inv u.parts.ensures ∙ shared at w)))
      | else-all_even u ↦
          rw u.total-is (even_same w _ (c.loop-i.invariant w) (inside at) (sym c.all_even.ensures
          ∙ u.if-all_even.false))
    ]

pub returns : goal.returns
unfolding integral_parts view held
returns c w = even_end w _ (c.loop-i.invariant w) (omega arith)
