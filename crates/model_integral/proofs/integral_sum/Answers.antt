-- `integral_sum` sums the shares of the terms whose exponents are all even.
use mathlib.Core.Path.{◌≡◌, sym, ◌∙◌, ap, ap₂}
use Prim.Native.Nat.{◌^◌, ◌<◌}
use native.Mathlib.Omega.{arith}
use lib.IntN.{ℤ, pos, ◌+ℤ◌, ◌*ℤ◌}
use lib.ListN.{get_or}
use mir.Facts.{to_z-of_z}
use mir.Syntax.{w64}
use mir.Val.{to_z, of_z}
use Rattle.fixed.specs.MachineLaws.{answered}
use Rattle.calculus.specs.Terms.{size}
use Rattle.calculus.specs.Operations.{integral_sum}
use Rattle.model_types.specs.ModelStruct.{view}
use Rattle.model_keys.specs.Keys.{key_divisor}
use Rattle.model_slices.specs.HeldModels.{held}
use Rattle.model_integral.specs.Rounding.{rule}
use Rattle.model_integral.specs.IntegralSizeLaws.{share, shares_within, volume_le, scaled_fits}
use Rattle.model_integral.specs.IntegralTerms.{TermsIn}
use Rattle.model_integral.specs.IntegralPassLaws as L
use Rattle.model_integral.specs.IntegralPassLaws.{EvenSum, even_first, even_end, even_room, even_more, even_same}
use Rattle.model_integral.specs.IntegralPassLaws.{terms, terms_small, coefficient_small, powers, divisor_at}
use Rattle.model_integral.proofs.integral_sum.Goals as goal
use Rattle.model_integral.proofs.integral_sum.Goals.{then-all_even, else-all_even, After-c-1, Start}

pub volume-requires : goal.volume-requires
volume-requires c = let w = c.requires in (L.some w, L.width w)

pub signed-scale-requires : goal.signed-scale-requires
signed-scale-requires c = omega (arith, c.volume.ensures, volume_le _ (L.width c.requires))

pub loop-i-init : goal.loop-i-init
loop-i-init c w = even_first w _

-- the term at hand
module _ (c : After-c-1) where
  inside : c.loop-i.i < c.args.count
  inside = omega arith

  abbrev coefficient : ℤ
  coefficient = get_or c.args.coefficients.now c.loop-i.i (pos 0)

  read_back : to_z w64 (of_z w64 coefficient) ≡ coefficient
  read_back = to_z-of_z {w = w64} (record { sfits = c.c-1.given })

  -- the volume of the box
  scaled : to_z w64 (of_z w64 c.signed-scale.result) ≡ pos (2 ^ c.args.n)
  scaled =
      answered c.signed-scale.type_inv (c.signed-scale.ensures ∙ ap pos c.volume.ensures)

  -- what it adds
  shared : (w : TermsIn c.args.n c.args.count c.args.keys.now c.args.coefficients.now)
      → rule c.args.up (to_z w64 (of_z w64 coefficient) *ℤ to_z w64 (of_z w64 c.signed-scale.result))
      (key_divisor (get_or c.args.keys.now c.loop-i.i 0))
      ≡ share c.args.up c.args.n (powers w c.loop-i.i inside) coefficient
  shared w =
      ap₂ (rule c.args.up) (ap₂ ◌*ℤ◌ read_back scaled) (sym (divisor_at w c.loop-i.i inside))

pub share-requires : goal.share-requires
share-requires c =
    let w = c.requires in
    rw (read_back (goal.at.share-requires c).After-c-1, scaled (goal.at.share-requires c).After-c-1)
    (scaled_fits _ _ (L.width w) (coefficient_small w c.loop-i.i (inside (goal.at.share-requires c).After-c-1)))

pub sum-total-requires : goal.sum-total-requires
sum-total-requires c =
    let w = c.requires in
    rw (answered c.share.type_inv c.share.ensures ∙ shared (goal.at.sum-total-requires c).After-c-1 w)
    (omega (
      arith,
      even_room w (share c.args.up c.args.n) (c.loop-i.invariant w) (inside (goal.at.sum-total-requires c).After-c-1),
      shares_within c.args.up c.args.n (terms w),
      scaled_fits c.args.n (size (terms w)) (L.width w) (terms_small w),
    ))

pub loop-i-preserved : goal.loop-i-preserved
loop-i-preserved c w =
    let at = (goal.at.loop-i-preserved c).After-c-1 in
    elim c.if-all_even.branch [
      | then-all_even u ↦
          even_more w _ (c.loop-i.invariant w) (inside at) (sym c.all_even.ensures ∙ u.if-all_even.true)
          (u.total-is ∙ answered u.sum-total.type_inv (u.sum-total.ensures
          ∙ ap (λ z. to_z w64 c.loop-i.total-bits +ℤ z) (answered u.share.type_inv u.share.ensures ∙ shared at w)))
      | else-all_even u ↦
          rw u.total-is (even_same w _ (c.loop-i.invariant w) (inside at) (sym c.all_even.ensures
          ∙ u.if-all_even.false))
    ]

pub returns : goal.returns
unfolding integral_sum view held
returns c w = even_end w _ (c.loop-i.invariant w) (omega arith)
