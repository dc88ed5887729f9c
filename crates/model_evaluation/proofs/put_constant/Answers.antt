-- `put_constant` goes down the powers of a variable: what is left at each iteration leads to the answer.
use mathlib.Core.Path.{◌≡◌, sym, subst}
use mathlib.Core.List.{List}
use Prim.Native.Nat.{ℕ, ◌-◌, ◌<◌}
use native.Mathlib.Omega.{arith}
use borrow.Author.Rules.{rules}
use lib.IntN.{ℤ}
use mir.Facts.{to_z-of_z}
use mir.Syntax.{w64}
use mir.Val.{to_z, of_z}
use Rattle.calculus.specs.Operations.{part}
use Rattle.model_types.specs.ModelStruct.{view, pack}
use Rattle.model_slices.specs.HeldModels.{held, Room}
use Rattle.model_powers.specs.Powers.{exponents}
use Rattle.model_evaluation.specs.Evaluate.{PutOf, PutIn}
use Rattle.model_evaluation.specs.PutCoordinateLaws as P
use Rattle.model_evaluation.specs.SliceIterationLaws.{put_keys, put_part, put_first, put_few, put_iterating}
use Rattle.model_evaluation.specs.SliceIterationLaws.{put_stops}
use Rattle.model_evaluation.specs.SliceIterationLaws.{put_goes_on, put_packed, put_end}
use Rattle.model_evaluation.proofs.put_constant.Goals as goal
use Rattle.model_evaluation.proofs.put_constant.Goals.{After-part-c, After-part-d, After-put_iteration-iteration, At-loop-k, Start}

module _ (s : Start) where
  -- the coordinate, as a loop holds it
  abbrev X : ℤ
  X = to_z w64 (of_z w64 s.args.x)

  back : X ≡ s.args.x
  back = to_z-of_z s.ranges.x

  -- models that the slices hold
  abbrev Given : Type 0
  Given = PutOf s.args.i X s.args.count s.args.radius s.args.keys.now s.args.coefficients.now

  given : Given
  given = subst (λ z. PutOf s.args.i z s.args.count s.args.radius s.args.keys.now
      s.args.coefficients.now) (sym back) s.requires.put_of

pub by_powers-p-requires : goal.by_powers-p-requires
by_powers-p-requires c = put_keys (given (goal.at.by_powers-p-requires c).Start)

pub part-c-requires : goal.part-c-requires
part-c-requires c =
    let q = c.by_powers-p.ensures.chained in
    record {
      part_of = put_part (given (goal.at.part-c-requires c).Start);
      k_lt_exponents = (q.low, q);
      room = c.requires.room;
    }

-- ---- before the first iteration
module _ (c : After-part-c) where
  abbrev first_keys : List ℕ
  first_keys = c.part-c.new.stored

  abbrev firsts : List ℤ
  firsts = c.part-c.new.out

  first_room : Room first_keys firsts
  first_room = record {
    keys = let a = c.requires.room.keys in search rules;
    coefficients = let a = c.requires.room.coefficients in search rules;
  }

pub loop-k-init : goal.loop-k-init
loop-k-init c = (
  first_room (goal.at.loop-k-init c).After-part-c,
  c.requires.room_2,
  c.requires.room_3,
  λ w. put_first w (c.by_powers-p.ensures.largest (put_keys w)) _ _ _ (c.part-c.ensures (put_part w)),
  c.by_powers-p.ensures.chained.low,
)

abbrev start : At-loop-k → Start
start l = l.before.before.before.before.before.before.before.before.before.before.before.before.before

pub part-d-requires : goal.part-d-requires
part-d-requires c =
    let q = c.by_powers-p.ensures.chained in
    record {
      part_of = put_part (given (start (goal.at.part-d-requires c).At-loop-k));
      k_lt_exponents = (omega (arith, c.loop-k.invariant.4), q);
      room = c.loop-k.invariant.1;
    }

-- the terms of the next power
module _ (c : After-part-d) where
  abbrev next_keys : List ℕ
  next_keys = c.part-d.new.stored

  abbrev nexts : List ℤ
  nexts = c.part-d.new.out

  next_room : Room next_keys nexts
  next_room = record {
    keys = let a = c.loop-k.invariant.1.keys in search rules;
    coefficients = let a = c.loop-k.invariant.1.coefficients in search rules;
  }

  some : 0 < c.loop-k.k
  some = omega (arith, c.loop-k-test.true)

  module _ (w : Given (start (record {
    before = c.before.before.before.before.before;
    type_inv = record
        { keys = c.shared_slice_known-1.given };
  }))) where
    next_is : held w.vars c.part-d.result 0 next_keys nexts
        ≡ pack (part (start (record {
          before = c.before.before.before.before.before;
          type_inv = record
              { keys = c.shared_slice_known-1.given };
        })).args.i (c.loop-k.k - 1)
        (view (held w.vars (start (record {
          before = c.before.before.before.before.before;
          type_inv = record
              { keys = c.shared_slice_known-1.given };
        })).args.count
        (start (record {
          before = c.before.before.before.before.before;
          type_inv = record
              { keys = c.shared_slice_known-1.given };
        })).args.radius
        (start (record {
          before = c.before.before.before.before.before;
          type_inv = record
              { keys = c.shared_slice_known-1.given };
        })).args.keys.now
        (start (record {
          before = c.before.before.before.before.before;
          type_inv = record
              { keys = c.shared_slice_known-1.given };
        })).args.coefficients.now)))
    next_is = c.part-d.ensures (put_part w)

pub put_iteration-iteration-requires : goal.put_iteration-iteration-requires
put_iteration-iteration-requires c =
    let w = given (start (goal.at.put_iteration-iteration-requires c).At-loop-k) in
    record {
      iteration_of = put_iterating w _ _ _ _ (c.loop-k.invariant.3 w) _ _ _
          (next_is (goal.at.put_iteration-iteration-requires c).After-part-d w) c.loop-k.invariant.0
          (next_room (goal.at.put_iteration-iteration-requires c).After-part-d);
      room = c.loop-k.invariant.2;
    }

-- what the iteration leaves
module _ (c : After-put_iteration-iteration) where
  abbrev left_keys : List ℕ
  left_keys = c.put_iteration-iteration.new.keys

  abbrev lefts : List ℤ
  lefts = c.put_iteration-iteration.new.coefficients

  left_room : Room left_keys lefts
  left_room = record {
    keys = let a = c.loop-k.invariant.0.keys in search rules;
    coefficients = let a = c.loop-k.invariant.0.coefficients in search rules;
  }

  spare_room : Room c.put_iteration-iteration.new.spare
      c.put_iteration-iteration.new.products
  spare_room = record {
    keys = let a = c.loop-k.invariant.2.keys in search rules;
    coefficients = let a = c.loop-k.invariant.2.coefficients in search rules;
  }

pub shape_of-stored-in_default : goal.shape_of-stored-in_default
shape_of-stored-in_default c =
    let a = (left_room (goal.at.shape_of-stored-in_default c).After-put_iteration-iteration).keys in
    let b = (start (goal.at.shape_of-stored-in_default c).At-loop-k).requires.room.keys in search rules

pub shape_of-out-in_default : goal.shape_of-out-in_default
shape_of-out-in_default c =
    let a = (left_room (goal.at.shape_of-out-in_default c).After-put_iteration-iteration).coefficients in
    let b = (start (goal.at.shape_of-out-in_default c).At-loop-k).requires.room.coefficients in search rules

pub shape_of-others-in_default : goal.shape_of-others-in_default
shape_of-others-in_default c =
    let a = (next_room (goal.at.shape_of-others-in_default c).After-part-d).keys in
    let b = (start (goal.at.shape_of-others-in_default c).At-loop-k).requires.room_2.keys in search rules

pub shape_of-added-in_default : goal.shape_of-added-in_default
shape_of-added-in_default c =
    let a = (next_room (goal.at.shape_of-added-in_default c).After-part-d).coefficients in
    let b = (start (goal.at.shape_of-added-in_default c).At-loop-k).requires.room_2.coefficients in search rules

pub shape_of-spare-in_default : goal.shape_of-spare-in_default
shape_of-spare-in_default c =
    let a = (spare_room (goal.at.shape_of-spare-in_default c).After-put_iteration-iteration).keys in
    let b = (start (goal.at.shape_of-spare-in_default c).At-loop-k).requires.room_3.keys in search rules

pub shape_of-products-in_default : goal.shape_of-products-in_default
shape_of-products-in_default c =
    let a = (spare_room (goal.at.shape_of-products-in_default c).After-put_iteration-iteration).coefficients in
    let b = (start (goal.at.shape_of-products-in_default c).At-loop-k).requires.room_3.coefficients in search rules

pub returns-in_default : goal.returns-in_default
returns-in_default c =
    let s = start (goal.at.returns-in_default c).At-loop-k in
    subst (λ z. PutIn s.args.i z s.args.count s.args.radius s.args.keys.now
    s.args.coefficients.now c.put_iteration-iteration.result
    (left_keys (goal.at.returns-in_default c).After-put_iteration-iteration)
    (lefts (goal.at.returns-in_default c).After-put_iteration-iteration))
    (back s) (λ w. put_stops w _ _ _ _ (c.loop-k.invariant.3 w) _ _ _
    (next_is (goal.at.returns-in_default c).After-part-d w) (some (goal.at.returns-in_default c).After-part-d) _ _
    (c.put_iteration-iteration.ensures (put_iterating w _ _ _ _ (c.loop-k.invariant.3 w) _ _ _
    (next_is (goal.at.returns-in_default c).After-part-d w) c.loop-k.invariant.0
    (next_room (goal.at.returns-in_default c).After-part-d))) c.in_default.is)

pub loop-k-preserved : goal.loop-k-preserved
loop-k-preserved c = (
  left_room (goal.at.loop-k-preserved c).After-put_iteration-iteration,
  next_room (goal.at.loop-k-preserved c).After-part-d,
  spare_room (goal.at.loop-k-preserved c).After-put_iteration-iteration,
  λ w. put_goes_on w _ _ _ _ (c.loop-k.invariant.3 w) _ _ _ (next_is (goal.at.loop-k-preserved c).After-part-d w)
      (some (goal.at.loop-k-preserved c).After-part-d) _ _
      (c.put_iteration-iteration.ensures (put_iterating w _ _ _ _ (c.loop-k.invariant.3 w) _ _ _
      (next_is (goal.at.loop-k-preserved c).After-part-d w) c.loop-k.invariant.0
      (next_room (goal.at.loop-k-preserved c).After-part-d))) c.in-Ok.is,
  omega (arith, c.loop-k.invariant.4),
)

pub limited_slices-requires : goal.limited_slices-requires
limited_slices-requires c =
    let w = given (start (goal.at.limited_slices-requires c).At-loop-k) in
    (put_few w _ _ _ _ (c.loop-k.invariant.3 w), c.loop-k.invariant.0.coefficients)

pub shape_of-stored : goal.shape_of-stored
shape_of-stored c =
    let a = c.loop-k.invariant.0.keys in
    let b = (start (goal.at.shape_of-stored c).At-loop-k).requires.room.keys in search rules

pub shape_of-out : goal.shape_of-out
shape_of-out c =
    let a = c.loop-k.invariant.0.coefficients in
    let b = (start (goal.at.shape_of-out c).At-loop-k).requires.room.coefficients in search rules

pub shape_of-others : goal.shape_of-others
shape_of-others c =
    let a = c.loop-k.invariant.1.keys in
    let b = (start (goal.at.shape_of-others c).At-loop-k).requires.room_2.keys in search rules

pub shape_of-added : goal.shape_of-added
shape_of-added c =
    let a = c.loop-k.invariant.1.coefficients in
    let b = (start (goal.at.shape_of-added c).At-loop-k).requires.room_2.coefficients in search rules

pub shape_of-spare : goal.shape_of-spare
shape_of-spare c =
    let a = c.loop-k.invariant.2.keys in
    let b = (start (goal.at.shape_of-spare c).At-loop-k).requires.room_3.keys in search rules

pub shape_of-products : goal.shape_of-products
shape_of-products c =
    let a = c.loop-k.invariant.2.coefficients in
    let b = (start (goal.at.shape_of-products c).At-loop-k).requires.room_3.coefficients in search rules

pub returns : goal.returns
returns c =
    let s = start (goal.at.returns c).At-loop-k in
    subst (λ z. PutIn s.args.i z s.args.count s.args.radius s.args.keys.now
    s.args.coefficients.now c.limited_slices.result c.loop-k.stored c.loop-k.out)
    (back s) (λ w. put_end w _ _ _ _ (c.loop-k.invariant.3 w) (omega (arith, c.loop-k-test.false))
    c.capped_sum.ensures
    (c.limited_slices.ensures w.vars _ c.loop-k.invariant.0 (put_packed w _ _ _ _ (c.loop-k.invariant.3 w) _)))
