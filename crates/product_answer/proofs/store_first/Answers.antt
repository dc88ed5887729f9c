-- `store_first` stores one term after the other.
use mathlib.Core.Path.{◌≡◌, refl, ◌∙◌}
use native.Mathlib.Omega.{arith}
use lib.IntN.{pos}
use lib.ListN.{get_or, length-set}
use mir.Facts.{to_z-of_z}
use mir.Syntax.{w64}
use mir.Val.{to_z, of_z}
use Rattle.model_slices.specs.HandedModels.{over}
use Rattle.product_sums.specs.TermArrays.{terms}
use Rattle.product_answer.specs.PackedTerms.{narrow_keys, narrow_coefficients}
use Rattle.product_answer.specs.PackedTermsLaws.{keys_more, coefficients_more}
use Rattle.product_answer.proofs.store_first.Goals as goal

pub loop-i-init : goal.loop-i-init
unfolding over terms narrow_keys narrow_coefficients
loop-i-init c = (omega arith, refl, refl, refl, refl)

pub narrow_key-requires : goal.narrow_key-requires
narrow_key-requires c =
    c.requires.pack_ready.small c.loop-i.i (omega arith)

pub loop-i-preserved : goal.loop-i-preserved
loop-i-preserved c =
    let h = c.loop-i.invariant in
    let i = c.loop-i.i in
    let z = get_or c.args.rounded.now i (pos 0) in
    let read_back : to_z w64 (of_z w64 z) ≡ z = to_z-of_z {w = w64} (record { sfits = c.c-1.given }) in
    let lk = c.requires.pack_ready.keys_long in
    let lc = c.requires.pack_ready.coefficients_long in (
      omega arith,
      length-set c.loop-i.keys i _ ∙ h.1,
      length-set c.loop-i.coefficients i _ ∙ h.2,
      rw (h.3, c.narrow_key.ensures) (keys_more _ _ i _ (omega arith) (omega arith) (omega arith)),
      rw (h.4, read_back) (coefficients_more _ _ i _ (omega arith) (omega arith) (omega arith)),
    )

pub returns : goal.returns
returns c =
    let e : c.loop-i.i ≡ c.args.count = omega arith in
    (rw (c.loop-i.invariant.3, e), rw (c.loop-i.invariant.4, e))
