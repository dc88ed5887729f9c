-- `store_zeros` stores one zero after the other.
use mathlib.Core.Path.{◌≡◌, refl, ◌∙◌}
use Prim.Native.Nat.{◌-◌, ◌≤◌}
use native.Mathlib.Omega.{arith}
use borrow.Author.Rules.{rules}
use lib.IntN.{pos}
use lib.ListN.{length, length-set}
use Rattle.calculus.specs.Model.{most_terms}
use Rattle.product_slices.specs.KeptPlaces.{zeroed}
use Rattle.product_slices.specs.KeptPlacesLaws.{zeroed_none, zeroed_more}
use Rattle.product_slices.proofs.store_zeros.Goals as goal

pub loop-i-init : goal.loop-i-init
unfolding most_terms
loop-i-init c = (
  omega arith,
  omega arith,
  refl,
  refl,
  zeroed_none 0 c.args.from c.args.keys.now (omega arith),
  zeroed_none (pos 0) c.args.from c.args.coefficients.now (omega arith),
)

pub offset_bounds-keys-i : goal.offset_bounds-keys-i
unfolding most_terms
offset_bounds-keys-i c = search rules

pub bounds-keys-i : goal.bounds-keys-i
unfolding most_terms
bounds-keys-i c = search rules

pub offset_bounds-coefficients-i : goal.offset_bounds-coefficients-i
unfolding most_terms
offset_bounds-coefficients-i c = search rules

pub slice_set_of-coefficients : goal.slice_set_of-coefficients
unfolding most_terms
slice_set_of-coefficients c = search rules

pub loop-i-preserved : goal.loop-i-preserved
unfolding most_terms
loop-i-preserved c =
    let h = c.loop-i.invariant in
    let i = c.loop-i.i in (
      omega arith,
      omega arith,
      length-set c.loop-i.keys i _ ∙ h.2,
      length-set c.loop-i.coefficients i _ ∙ h.3,
      rw h.4 (zeroed_more 0 c.args.from c.args.keys.now (omega arith) i (omega arith) (omega arith)),
      rw h.5
          (zeroed_more (pos 0) c.args.from c.args.coefficients.now (omega arith) i (omega arith)
          (omega arith)),
    )

pub returns : goal.returns
unfolding most_terms
returns c =
    let e : c.loop-i.i ≡ 64 = omega arith in
    (rw (c.loop-i.invariant.4, e), rw (c.loop-i.invariant.5, e))
