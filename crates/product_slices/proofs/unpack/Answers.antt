-- `unpack` puts one wide key after the other into the array.
use mathlib.Core.Path.{◌≡◌, refl, ◌∙◌, ap}
use Prim.Native.Nat.{◌-◌, ◌≤◌}
use native.Mathlib.Omega.{arith}
use borrow.Author.Rules.{rules}
use lib.IntN.{pos, nat_abs}
use lib.ListN.{length, get_or, length-set}
use mir.Facts.{to_z-of_z}
use mir.Syntax.{w64}
use mir.Val.{to_z, of_z}
use Rattle.calculus_laws.specs.MonomialKeyLaws.{word_key}
use Rattle.model_slices.specs.HandedModels.{handed}
use Rattle.product_slices.specs.HandedTerms.{Handed}
use Rattle.product_slices.specs.HandedTermsLaws.{Unpacking, handed_first, handed_iteration, handed_room}
use Rattle.product_slices.specs.HandedTermsLaws.{handed_end}
use Rattle.product_slices.proofs.unpack.Goals as goal
use Rattle.product_slices.proofs.unpack.Goals.{After-magnitude-total}

pub loop-i-init : goal.loop-i-init
loop-i-init c = (omega arith, refl, λ w. handed_first w _)

-- the coefficient at hand is the one that was read
module _ (c : After-magnitude-total) where
  size_at : c.magnitude-total.result ≡ nat_abs (get_or c.args.coefficients.now c.loop-i.i (pos 0))
  size_at =
      let z = get_or c.args.coefficients.now c.loop-i.i (pos 0) in
      let read_back : to_z w64 (of_z w64 z) ≡ z = to_z-of_z {w = w64} (record { sfits = c.c-1.given }) in
      c.magnitude-total.ensures ∙ ap nat_abs read_back

pub overflow_add-total : goal.overflow_add-total
overflow_add-total c =
    let room = handed_room c.requires.handed (c.loop-i.invariant.2 c.requires.handed) (omega arith) in
    record { fits = omega (arith, room, size_at c) }

pub loop-i-preserved : goal.loop-i-preserved
loop-i-preserved c = (
  omega arith,
  length-set c.loop-i.wide c.loop-i.i _ ∙ c.loop-i.invariant.1,
  λ w. rw (c.wide_key.ensures, size_at c)
      (handed_iteration w (c.loop-i.invariant.2 w) (omega arith) (omega arith)
      (word_key _ (c.shared_slice_known-1.given c.loop-i.i).fits)),
)

pub returns : goal.returns
returns c w = handed_end w (c.loop-i.invariant.2 w) (omega arith)
