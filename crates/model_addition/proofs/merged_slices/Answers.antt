-- `merged_slices` merges: what is stored, followed by the sum of what is left, is the sum.
use mathlib.Core.Path.{◌≡◌}
use Prim.Native.Nat.{◌+◌, ◌-◌, ◌<◌, ◌≤◌}
use native.Mathlib.Omega.{arith}
use borrow.Author.Rules.{rules}
use lib.IntN.{ℤ, pos}
use lib.ListN.{get_or}
use mir.Facts.{to_z-of_z}
use mir.Syntax.{w64}
use mir.Val.{to_z, of_z}
use Rattle.calculus.specs.Model.{most_terms}
use Rattle.model_types.specs.ModelStruct.{pad}
use Rattle.model_types.specs.ZeroTestLaws.{zero_bits, nonzero_bits}
use Rattle.model_slices.specs.HandedModels.{terms_of}
use Rattle.model_slices.specs.HeldModels.{held, Room, Clear}
use Rattle.model_slices.specs.HeldModelsLaws.{room_still, clear_more}
use Rattle.model_addition.specs.Addition.{SumFrom}
use Rattle.model_addition.specs.MergeLaws.{Merged, Iteration}
use Rattle.model_addition.specs.MergePassLaws.{first_few, second_few, merge_first, merge_fits, merge_iteration}
use Rattle.model_addition.specs.MergePassLaws.{merge_skip, merge_store, merge_many, merge_end}
use Rattle.model_addition.proofs.merged_slices.Goals as goal
use Rattle.model_addition.proofs.merged_slices.Goals.{After-take_next-next, At-loop-i, Start}

module _ (s : Start) where
  few_first : s.args.c ≤ 64
  unfolding most_terms
  few_first = first_few s.requires.sum_from

  few_second : s.args.d ≤ 64
  unfolding most_terms
  few_second = second_few s.requires.sum_from

module _ (l : At-loop-i) where
  left : l.loop-i.i ≤ l.args.c
  unfolding held
  left = (l.loop-i.invariant.1 l.requires.sum_from).left

  right : l.loop-i.j ≤ l.args.d
  unfolding held
  right = (l.loop-i.invariant.1 l.requires.sum_from).right

pub loop-i-init : goal.loop-i-init
loop-i-init c = (c.requires.room, λ w. merge_first w _ _, λ z. z)

pub overflow_add-i : goal.overflow_add-i
overflow_add-i c = omega (
  arith,
  left c,
  right c,
  few_first (goal.at.overflow_add-i c).Start,
  few_second (goal.at.overflow_add-i c).Start,
)

pub overflow_add-c : goal.overflow_add-c
overflow_add-c c = omega (
  arith,
  few_first (goal.at.overflow_add-c c).Start,
  few_second (goal.at.overflow_add-c c).Start,
)

pub term_at-x-requires : goal.term_at-x-requires
term_at-x-requires c = c.requires.sum_from.first_places

pub term_at-y-requires : goal.term_at-y-requires
term_at-y-requires c = c.requires.sum_from.second_places

pub take_next-next-requires : goal.take_next-next-requires
take_next-next-requires c = record {
  left = c.loop-i-test.true;
  second = right (goal.at.take_next-next-requires c).At-loop-i;
  fits = merge_fits c.requires.sum_from _ _ c.term_at-x.ensures c.term_at-y.ensures;
}

-- what comes next, for any two models that the slices hold
turned : (c : After-take_next-next)
    → (w : SumFrom c.args.c c.args.keys1.now c.args.coefficients1.now c.args.d c.args.keys2.now
    c.args.coefficients2.now)
    → Iteration (held w.vars c.args.c w.radius1 c.args.keys1.now c.args.coefficients1.now)
    (held w.vars c.args.d w.radius2 c.args.keys2.now c.args.coefficients2.now)
    c.loop-i.i c.loop-i.j c.take_next-next.result
turned c w =
    merge_iteration w _ _ (c.loop-i.invariant.1 w) c.term_at-x.ensures c.term_at-y.ensures _
    c.take_next-next.ensures

pub shape_of-stored-then-count-ge-MOST_TERMS : goal.shape_of-stored-then-count-ge-MOST_TERMS
shape_of-stored-then-count-ge-MOST_TERMS c =
    let a = c.loop-i.invariant.0.keys in
    let b = c.requires.room.keys in search rules

pub shape_of-out-then-count-ge-MOST_TERMS : goal.shape_of-out-then-count-ge-MOST_TERMS
shape_of-out-then-count-ge-MOST_TERMS c =
    let a = c.loop-i.invariant.0.coefficients in
    let b = c.requires.room.coefficients in search rules

pub returns-then-count-ge-MOST_TERMS : goal.returns-then-count-ge-MOST_TERMS
unfolding most_terms
returns-then-count-ge-MOST_TERMS c =
    record {
      terms = λ w. merge_many w _ _ (c.loop-i.invariant.1 w) _
          (turned (goal.at.returns-then-count-ge-MOST_TERMS c).After-take_next-next w) (nonzero_bits _ c.if-z-ne0.true)
          c.if-count-ge-MOST_TERMS.true
          _ _;
      clear = λ h z. absurd (omega arith);
    }

pub offset_bounds-stored-count : goal.offset_bounds-stored-count
offset_bounds-stored-count c = omega arith

pub bounds-stored-count : goal.bounds-stored-count
bounds-stored-count c = omega (arith, c.if-count-ge-MOST_TERMS.false, c.loop-i.invariant.0.keys)

pub offset_bounds-out-count : goal.offset_bounds-out-count
offset_bounds-out-count c = omega arith

pub bounds-out-count : goal.bounds-out-count
bounds-out-count c = omega (arith, c.if-count-ge-MOST_TERMS.false, c.loop-i.invariant.0.coefficients)

pub overflow_add-count : goal.overflow_add-count
overflow_add-count c = omega arith

pub loop-i-smaller-then-z-ne0 : goal.loop-i-smaller-then-z-ne0
loop-i-smaller-then-z-ne0 c =
    omega (arith, (turned (goal.at.loop-i-smaller-then-z-ne0 c).After-take_next-next c.requires.sum_from).on)

pub loop-i-preserved-then-z-ne0 : goal.loop-i-preserved-then-z-ne0
unfolding most_terms
loop-i-preserved-then-z-ne0 c = (
  room_still _ _ _ c.loop-i.invariant.0,
  λ w. merge_store w _ _ (c.loop-i.invariant.1 w) _
      (turned (goal.at.loop-i-preserved-then-z-ne0 c).After-take_next-next w) (nonzero_bits _ c.if-z-ne0.true)
      (omega (arith, c.if-count-ge-MOST_TERMS.false)) c.loop-i.invariant.0
      (to_z-of_z {w = w64} (record { sfits = c.struct_told-1.given.1.0.1 })),
  λ z. clear_more _ _ (c.loop-i.invariant.2 z) c.loop-i.invariant.0 (omega (arith, c.if-count-ge-MOST_TERMS.false)),
)

pub loop-i-smaller : goal.loop-i-smaller
loop-i-smaller c =
    omega (arith, (turned (goal.at.loop-i-smaller c).After-take_next-next c.requires.sum_from).on)

pub loop-i-preserved : goal.loop-i-preserved
loop-i-preserved c = (
  c.loop-i.invariant.0,
  λ w. merge_skip w _ _ (c.loop-i.invariant.1 w) _ (turned (goal.at.loop-i-preserved c).After-take_next-next w)
      (zero_bits (record { sfits = c.struct_told-1.given.1.0.1 }) c.if-z-ne0.false),
  c.loop-i.invariant.2,
)

pub shape_of-stored : goal.shape_of-stored
shape_of-stored c =
    let a = c.loop-i.invariant.0.keys in
    let b = c.requires.room.keys in search rules

pub shape_of-out : goal.shape_of-out
shape_of-out c =
    let a = c.loop-i.invariant.0.coefficients in
    let b = c.requires.room.coefficients in search rules

pub returns : goal.returns
returns c =
    let i = c.loop-i.invariant in record {
      terms = λ w. merge_end w _ _ (i.1 w) (omega (arith, c.loop-i-test.false));
      clear = λ h. i.2;
    }
