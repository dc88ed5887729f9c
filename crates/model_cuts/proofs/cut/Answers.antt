-- `cut` keeps the ends that cover the pieces so far, and begins with those of the first piece.
use mathlib.Core.Path.{◌≡◌, refl, sym, ◌∙◌, ap, ap₂, subst₂}
use Prim.Native.Nat.{ℕ, ◌+◌, ◌-◌, ◌^◌, ◌≤◌, ◌<◌}
use native.Mathlib.Omega.{arith}
use native.Mathlib.Nat as NatL
use borrow.Author.Rules.{rules}
use lib.ListN.{length}
use mir.Facts.{to_z-of_z}
use mir.Syntax.{w64}
use mir.Val.{to_z, of_z}
use Rattle.fixed.specs.MachineLaws.{answered}
use Rattle.std.specs.Prelude.{Ok}
use Rattle.model_types.specs.ModelStruct.{view}
use Rattle.model_types.specs.ResultLaws.{sound_order}
use Rattle.product_room.specs.ProductTermsLaws.{free_room}
use Rattle.std.specs.Int.{int_min, int_max}
use Rattle.cuts.specs.Cuts.{most_depth}
use Rattle.model_cuts.specs.MinMaxLaws.{min_smaller, max_larger}
use Rattle.model_cut_pieces.specs.PieceStructLaws.{few_pieces}
use Rattle.model_cuts.specs.CoveredLaws.{Covered, first_refused, first_accepted, iteration_refused}
use Rattle.model_cuts.specs.CoveredLaws.{iteration_accepted}
use Rattle.model_cuts.specs.CoveredLaws.{covered_end}
use Rattle.model_cuts.proofs.cut.Goals as goal
use Rattle.model_cuts.proofs.cut.Goals.{After-piece_range-first, After-piece_range-next, At-loop-j}

-- after the first piece
module _ (c : After-piece_range-first) where
  slots_long : length c.piece_range-first.new.slots ≡ length c.args.slots.now
  slots_long = c.piece_range-first.auto.slots

  keys_long : length c.piece_range-first.new.keys ≡ length c.args.keys.now
  keys_long = c.piece_range-first.auto.keys

  sums_long : length c.piece_range-first.new.sums ≡ length c.args.sums.now
  sums_long = c.piece_range-first.auto.sums

-- at the head of the loop
module _ (c : At-loop-j) where
  count_is : c.pieces-pieces.result ≡ 2 ^ c.args.k
  count_is = c.pieces-pieces.ensures

  slots_kept : length c.loop-j.slots ≡ length c.args.slots.now
  slots_kept = c.loop-j.invariant.1 ∙ slots_long c.before.before.before.before.before.before.before.before.before.before

  keys_kept : length c.loop-j.keys ≡ length c.args.keys.now
  keys_kept = c.loop-j.invariant.2 ∙ keys_long c.before.before.before.before.before.before.before.before.before.before

  sums_kept : length c.loop-j.sums ≡ length c.args.sums.now
  sums_kept = c.loop-j.invariant.3 ∙ sums_long c.before.before.before.before.before.before.before.before.before.before

-- after the piece of an iteration
module _ (c : After-piece_range-next) where
  inside : c.loop-j.j < 2 ^ c.args.k
  inside = omega (arith, c.loop-j-test.true, count_is c.before.before.before.before.before)

pub range_of-whole-requires : goal.range_of-whole-requires
range_of-whole-requires c =
    sound_order _ _ c.requires.cutting.order c.requires.cutting.model

pub piece_range-first-requires : goal.piece_range-first-requires
piece_range-first-requires c =
    record {
      cutting = c.requires.cutting;
      j_bound = NatL.one-le-pow c.args.k 2 (omega arith);
      scratch_room = c.requires.scratch_room;
    }

pub shape_of-slots-in_default : goal.shape_of-slots-in_default
shape_of-slots-in_default c = slots_long (goal.at.shape_of-slots-in_default c).After-piece_range-first

pub shape_of-keys-in_default : goal.shape_of-keys-in_default
shape_of-keys-in_default c = keys_long (goal.at.shape_of-keys-in_default c).After-piece_range-first

pub shape_of-sums-in_default : goal.shape_of-sums-in_default
shape_of-sums-in_default c = sums_long (goal.at.shape_of-sums-in_default c).After-piece_range-first

pub returns-in_default : goal.returns-in_default
returns-in_default c =
    first_refused c.args.d c.args.i c.args.k (view c.args.f) c.piece_range-first.ensures
    c.in_default.is

pub pieces-pieces-requires : goal.pieces-pieces-requires
unfolding most_depth
pieces-pieces-requires c =
    omega (arith, c.requires.cutting.depth)

pub loop-j-init : goal.loop-j-init
loop-j-init c =
    let told = c.in-Ok.is in
    let h = first_accepted c.args.d c.args.i c.args.k (view c.args.f) c.piece_range-first.ensures
    told in (
      subst₂ (Covered c.args.d c.args.i c.args.k (view c.args.f) 1)
          (sym (to_z-of_z {w = w64} (record { sfits = c.struct_told-1.given.0.1 })))
          (sym (to_z-of_z {w = w64} (record { sfits = c.struct_told-2-1.given.1.0.1 }))) h,
      refl,
      refl,
      refl,
    )

pub piece_range-next-requires : goal.piece_range-next-requires
piece_range-next-requires c =
    record {
      cutting = c.requires.cutting;
      j_bound = omega (arith, c.loop-j-test.true, count_is (goal.at.piece_range-next-requires c).At-loop-j);
      scratch_room = free_room c.requires.scratch_room (slots_kept (goal.at.piece_range-next-requires c).At-loop-j)
          (keys_kept (goal.at.piece_range-next-requires c).At-loop-j)
          (sums_kept (goal.at.piece_range-next-requires c).At-loop-j);
    }

pub shape_of-slots-in_default-w : goal.shape_of-slots-in_default-w
shape_of-slots-in_default-w c =
    c.piece_range-next.auto.slots ∙ slots_kept (goal.at.shape_of-slots-in_default-w c).At-loop-j

pub shape_of-keys-in_default-w : goal.shape_of-keys-in_default-w
shape_of-keys-in_default-w c =
    c.piece_range-next.auto.keys ∙ keys_kept (goal.at.shape_of-keys-in_default-w c).At-loop-j

pub shape_of-sums-in_default-w : goal.shape_of-sums-in_default-w
shape_of-sums-in_default-w c =
    c.piece_range-next.auto.sums ∙ sums_kept (goal.at.shape_of-sums-in_default-w c).At-loop-j

pub returns-in_default-w : goal.returns-in_default-w
returns-in_default-w c =
    iteration_refused c.args.d c.args.i c.args.k (view c.args.f) c.loop-j.invariant.0
    (inside (goal.at.returns-in_default-w c).After-piece_range-next)
    c.piece_range-next.ensures c.in_default-w.is

pub loop-j-preserved : goal.loop-j-preserved
loop-j-preserved c =
    let told = c.in-Ok-w.is in
    let h = iteration_accepted c.args.d c.args.i c.args.k (view c.args.f) c.loop-j.invariant.0
    (inside (goal.at.loop-j-preserved c).After-piece_range-next)
    c.piece_range-next.ensures told in
    let low = c.min-low in
    let high = c.max-high in
    let low-in = to_z-of_z {w = w64} (record { sfits = c.struct_told-in-loop-j-1.given.0.1 }) in
    let high-in = to_z-of_z {w = w64} (record { sfits = c.struct_told-in-loop-j-2-1.given.1.0.1 }) in (
      subst₂ (Covered c.args.d c.args.i c.args.k (view c.args.f) (c.loop-j.j + 1))
          (sym (answered low.type_inv (low.ensures.value ∙ ap (λ z. int_min (to_z w64 c.loop-j.low-bits) z) low-in
          ∙ min_smaller _ _)))
          (sym (answered high.type_inv (high.ensures.value ∙ ap (λ z. int_max (to_z w64 c.loop-j.high-bits) z) high-in
          ∙ max_larger _ _))) h,
      c.piece_range-next.auto.slots ∙ c.loop-j.invariant.1,
      c.piece_range-next.auto.keys ∙ c.loop-j.invariant.2,
      c.piece_range-next.auto.sums ∙ c.loop-j.invariant.3,
    )

pub shape_of-slots : goal.shape_of-slots
shape_of-slots c = slots_kept (goal.at.shape_of-slots c).At-loop-j

pub shape_of-keys : goal.shape_of-keys
shape_of-keys c = keys_kept (goal.at.shape_of-keys c).At-loop-j

pub shape_of-sums : goal.shape_of-sums
shape_of-sums c = sums_kept (goal.at.shape_of-sums c).At-loop-j

pub returns : goal.returns
returns c =
    let from = c.max-from in
    let to = c.min-to in
    let low-in = to_z-of_z {w = w64} (record { sfits = c.struct_told-3-1.given.0.1 }) in
    let high-in = to_z-of_z {w = w64} (record { sfits = c.struct_told-4-1.given.1.0.1 }) in
    ap₂ (λ x y. record { low = x; high = y; verdict = Ok tt })
    (answered from.type_inv (from.ensures.value ∙ ap (λ z. int_max z (to_z w64 c.loop-j.low-bits)) low-in
    ∙ max_larger _ _))
    (answered to.type_inv (to.ensures.value ∙ ap (λ z. int_min z (to_z w64 c.loop-j.high-bits)) high-in
    ∙ min_smaller _ _))
    ∙ covered_end c.args.d c.args.i c.args.k (view c.args.f) c.loop-j.invariant.0
    (omega (arith, c.loop-j-test.false, count_is (goal.at.returns c).At-loop-j)) c.range_of-whole.ensures
