-- `put_in` goes down the powers of a variable: what is left at each iteration leads to the answer and to its shares.
use mathlib.Core.Path.{◌≡◌, refl, sym, ◌∙◌}
use mathlib.Core.List.{List}
use Prim.Native.Nat.{ℕ, ◌-◌, ◌*◌, ◌≤◌, ◌<◌}
use native.Mathlib.Omega.{arith}
use borrow.Author.Rules.{rules}
use lib.IntN.{ℤ}
use lib.ListN.{length}
use Rattle.numbers.specs.Fixed.{span_limit}
use Rattle.calculus.specs.Model.{most_terms}
use Rattle.calculus.specs.Operations.{part}
use Rattle.model_types.specs.ModelStruct.{view, pack}
use Rattle.model_slices.specs.HeldModels.{held, Room}
use Rattle.model_powers.specs.Powers.{exponents}
use Rattle.product_room.specs.ProductTerms.{ScratchRoom}
use Rattle.product_room.specs.ProductTermsLaws.{free_room}
use Rattle.model_substitution_slices.specs.HornerLaws.{Left, left_fits, radius_within}
use Rattle.model_substitution_slices.specs.SliceSubstitutionLaws.{put_keys, put_part, put_first, put_iteration}
use Rattle.model_substitution_slices.specs.SliceSubstitutionLaws.{put_room, put_stops, put_goes_on}
use Rattle.model_substitution_slices.specs.SliceSubstitutionLaws.{put_few, put_packed, put_end}
use Rattle.model_substitution_slices.proofs.put_in.Goals as goal
use Rattle.model_substitution_slices.proofs.put_in.Goals.{After-iterated-r, After-part-c, After-part-t, At-loop-k, Start}

pub by_powers-p-requires : goal.by_powers-p-requires
by_powers-p-requires c = put_keys c.requires.substitution_of

pub part-c-requires : goal.part-c-requires
part-c-requires c =
    let q = c.by_powers-p.ensures.chained in
    record {
      part_of = put_part c.requires.substitution_of;
      k_lt_exponents = (q.low, q);
      room = c.requires.room;
    }

-- ---- before the first iteration
module _ (c : After-part-c) where
  first_room : Room c.part-c.new.stored c.part-c.new.out
  first_room = record {
    keys = let a = c.requires.room.keys in search rules;
    coefficients = let a = c.requires.room.coefficients in search rules;
  }

pub loop-k-init : goal.loop-k-init
loop-k-init c =
    let w = c.requires.substitution_of in (
      first_room (goal.at.loop-k-init c).After-part-c,
      c.requires.room_2,
      c.requires.room_3,
      refl,
      refl,
      refl,
      put_first w (c.by_powers-p.ensures.largest (put_keys w)) _ _ _ (c.part-c.ensures (put_part w)),
      c.by_powers-p.ensures.chained.low,
    )

abbrev start : At-loop-k → Start
start
    l =
    l.before.before.before.before.before.before.before.before.before.before.before.before.before.before.before.before

pub part-t-requires : goal.part-t-requires
part-t-requires c =
    let q = c.by_powers-p.ensures.chained in
    record {
      part_of = put_part (start (goal.at.part-t-requires c).At-loop-k).requires.substitution_of;
      k_lt_exponents = (omega (arith, c.loop-k.invariant.7), q);
      room = c.loop-k.invariant.1;
    }

-- the terms of the next power
module _ (c : After-part-t) where
  abbrev next_keys : List ℕ
  next_keys = c.part-t.new.stored

  abbrev nexts : List ℤ
  nexts = c.part-t.new.out

  next_room : Room next_keys nexts
  next_room = record {
    keys = let a = c.loop-k.invariant.1.keys in search rules;
    coefficients = let a = c.loop-k.invariant.1.coefficients in search rules;
  }

  some : 0 < c.loop-k.k
  some = omega (arith, c.loop-k-test.true)

  next_is : held (start (record {
    before = c.before.before.before.before.before;
    type_inv = record
        { keys2 = c.shared_slice_known-2-1.given; keys = c.shared_slice_known-1.given };
  })).args.n c.part-t.result 0
      next_keys nexts
      ≡ pack (part (start (record {
        before = c.before.before.before.before.before;
        type_inv = record
            { keys2 = c.shared_slice_known-2-1.given; keys = c.shared_slice_known-1.given };
      })).args.i (c.loop-k.k - 1)
      (view (held (start (record {
        before = c.before.before.before.before.before;
        type_inv = record
            { keys2 = c.shared_slice_known-2-1.given; keys = c.shared_slice_known-1.given };
      })).args.n
      (start (record {
        before = c.before.before.before.before.before;
        type_inv = record
            { keys2 = c.shared_slice_known-2-1.given; keys = c.shared_slice_known-1.given };
      })).args.count
      (start (record {
        before = c.before.before.before.before.before;
        type_inv = record
            { keys2 = c.shared_slice_known-2-1.given; keys = c.shared_slice_known-1.given };
      })).args.radius
      (start (record {
        before = c.before.before.before.before.before;
        type_inv = record
            { keys2 = c.shared_slice_known-2-1.given; keys = c.shared_slice_known-1.given };
      })).args.keys.now
      (start (record {
        before = c.before.before.before.before.before;
        type_inv = record
            { keys2 = c.shared_slice_known-2-1.given; keys = c.shared_slice_known-1.given };
      })).args.coefficients.now)))
  next_is = c.part-t.ensures (put_part (start (record {
    before = c.before.before.before.before.before;
    type_inv = record
        { keys2 = c.shared_slice_known-2-1.given; keys = c.shared_slice_known-1.given };
  })).requires.substitution_of)

pub iterated-r-requires : goal.iterated-r-requires
iterated-r-requires c =
    let i = c.loop-k.invariant in
    let s = start (goal.at.iterated-r-requires c).At-loop-k in
    let w = s.requires.substitution_of in record {
      iteration_of = put_iteration w _ _ _ _ i.6 _ _ _ (next_is (goal.at.iterated-r-requires c).After-part-t) i.0
          (next_room (goal.at.iterated-r-requires c).After-part-t);
      scratch_room = put_room w _ _ _ _ i.6 _ _ _ (next_is (goal.at.iterated-r-requires c).After-part-t)
          (free_room s.requires.scratch_room i.3 i.4 i.5);
      room = i.2;
    }

-- what the iteration leaves
module _ (c : After-iterated-r) where
  left_room : Room c.iterated-r.new.keys1 c.iterated-r.new.coefficients1
  left_room = record {
    keys = let a = c.loop-k.invariant.0.keys in search rules;
    coefficients = let a = c.loop-k.invariant.0.coefficients in search rules;
  }

  spare_room : Room c.iterated-r.new.spare
      c.iterated-r.new.products
  spare_room = record {
    keys = c.iterated-r.auto.spare ∙ c.loop-k.invariant.2.keys;
    coefficients = c.iterated-r.auto.products
        ∙ c.loop-k.invariant.2.coefficients;
  }

  -- the table keeps its lengths
  slots_long : length c.iterated-r.new.slots
      ≡ length
      (start
      (record {
        before =
            let a = c.before.before.before.before.before.before.before.before in
            a.before.before.before.before.before.before.before.before;
        type_inv = record { keys2 = c.shared_slice_known-2-1.given; keys = c.shared_slice_known-1.given };
      })).args.slots.now
  slots_long = c.iterated-r.auto.slots ∙ c.loop-k.invariant.3

  table_long : length c.iterated-r.new.keys
      ≡ length
      (start
      (record {
        before =
            let a = c.before.before.before.before.before.before.before.before in
            a.before.before.before.before.before.before.before.before;
        type_inv = record { keys2 = c.shared_slice_known-2-1.given; keys = c.shared_slice_known-1.given };
      })).args.table.now
  table_long = c.iterated-r.auto.keys ∙ c.loop-k.invariant.4

  sums_long : length c.iterated-r.new.sums
      ≡ length
      (start
      (record {
        before =
            let a = c.before.before.before.before.before.before.before.before in
            a.before.before.before.before.before.before.before.before;
        type_inv = record { keys2 = c.shared_slice_known-2-1.given; keys = c.shared_slice_known-1.given };
      })).args.sums.now
  sums_long = c.iterated-r.auto.sums ∙ c.loop-k.invariant.5

pub shape_of-slots-in_default : goal.shape_of-slots-in_default
shape_of-slots-in_default c = slots_long (goal.at.shape_of-slots-in_default c).After-iterated-r

pub shape_of-table-in_default : goal.shape_of-table-in_default
shape_of-table-in_default c = table_long (goal.at.shape_of-table-in_default c).After-iterated-r

pub shape_of-sums-in_default : goal.shape_of-sums-in_default
shape_of-sums-in_default c = sums_long (goal.at.shape_of-sums-in_default c).After-iterated-r

pub shape_of-remaining-in_default : goal.shape_of-remaining-in_default
shape_of-remaining-in_default c =
    let a = (left_room (goal.at.shape_of-remaining-in_default c).After-iterated-r).keys in
    let b = (start (goal.at.shape_of-remaining-in_default c).At-loop-k).requires.room.keys in search rules

pub shape_of-rest-in_default : goal.shape_of-rest-in_default
shape_of-rest-in_default c =
    let a = (left_room (goal.at.shape_of-rest-in_default c).After-iterated-r).coefficients in
    let b = (start (goal.at.shape_of-rest-in_default c).At-loop-k).requires.room.coefficients in search rules

pub shape_of-others-in_default : goal.shape_of-others-in_default
shape_of-others-in_default c =
    let a = (next_room (goal.at.shape_of-others-in_default c).After-part-t).keys in
    let b = (start (goal.at.shape_of-others-in_default c).At-loop-k).requires.room_2.keys in search rules

pub shape_of-added-in_default : goal.shape_of-added-in_default
shape_of-added-in_default c =
    let a = (next_room (goal.at.shape_of-added-in_default c).After-part-t).coefficients in
    let b = (start (goal.at.shape_of-added-in_default c).At-loop-k).requires.room_2.coefficients in search rules

pub shape_of-spare-in_default : goal.shape_of-spare-in_default
shape_of-spare-in_default c =
    let a = (spare_room (goal.at.shape_of-spare-in_default c).After-iterated-r).keys in
    let b = (start (goal.at.shape_of-spare-in_default c).At-loop-k).requires.room_3.keys in search rules

pub shape_of-products-in_default : goal.shape_of-products-in_default
shape_of-products-in_default c =
    let a = (spare_room (goal.at.shape_of-products-in_default c).After-iterated-r).coefficients in
    let b = (start (goal.at.shape_of-products-in_default c).At-loop-k).requires.room_3.coefficients in search rules

pub returns-in_default : goal.returns-in_default
returns-in_default c =
    put_stops (start (goal.at.returns-in_default c).At-loop-k).requires.substitution_of _ _ _ _ c.loop-k.invariant.6 _ _
    _ (next_is (goal.at.returns-in_default c).After-part-t) (some (goal.at.returns-in_default c).After-part-t) _ _
    c.iterated-r.ensures
    c.in_default.is

pub loop-k-preserved : goal.loop-k-preserved
loop-k-preserved c = (
  left_room (goal.at.loop-k-preserved c).After-iterated-r,
  next_room (goal.at.loop-k-preserved c).After-part-t,
  spare_room (goal.at.loop-k-preserved c).After-iterated-r,
  slots_long (goal.at.loop-k-preserved c).After-iterated-r,
  table_long (goal.at.loop-k-preserved c).After-iterated-r,
  sums_long (goal.at.loop-k-preserved c).After-iterated-r,
  put_goes_on (start (goal.at.loop-k-preserved c).At-loop-k).requires.substitution_of _ _ _ _ c.loop-k.invariant.6 _ _ _
      (next_is (goal.at.loop-k-preserved c).After-part-t) (some (goal.at.loop-k-preserved c).After-part-t) _ _
      c.iterated-r.ensures
      c.in-Ok.is,
  omega (arith, c.loop-k.invariant.7),
)

-- ---- after the loop
pub widened-requires : goal.widened-requires
unfolding held
widened-requires c =
    let w = (start (goal.at.widened-requires c).At-loop-k).requires.substitution_of in
    let i = c.loop-k.invariant in record {
      count_le_model_places = (put_few w _ _ _ _ i.6, i.0.coefficients);
      carried_bound = (left_fits w.models i.6, omega (arith, radius_within w.models i.6));
    }

pub shape_of-slots : goal.shape_of-slots
shape_of-slots c = c.loop-k.invariant.3

pub shape_of-table : goal.shape_of-table
shape_of-table c = c.loop-k.invariant.4

pub shape_of-sums : goal.shape_of-sums
shape_of-sums c = c.loop-k.invariant.5

pub shape_of-remaining : goal.shape_of-remaining
shape_of-remaining c =
    let a = c.loop-k.invariant.0.keys in
    let b = (start (goal.at.shape_of-remaining c).At-loop-k).requires.room.keys in search rules

pub shape_of-rest : goal.shape_of-rest
shape_of-rest c =
    let a = c.loop-k.invariant.0.coefficients in
    let b = (start (goal.at.shape_of-rest c).At-loop-k).requires.room.coefficients in search rules

pub shape_of-others : goal.shape_of-others
shape_of-others c =
    let a = c.loop-k.invariant.1.keys in
    let b = (start (goal.at.shape_of-others c).At-loop-k).requires.room_2.keys in search rules

pub shape_of-added : goal.shape_of-added
shape_of-added c =
    let a = c.loop-k.invariant.1.coefficients in
    let b = (start (goal.at.shape_of-added c).At-loop-k).requires.room_2.coefficients in search rules

pub shape_of-spare : goal.shape_of-spare
shape_of-spare c =
    let a = c.loop-k.invariant.2.keys in
    let b = (start (goal.at.shape_of-spare c).At-loop-k).requires.room_3.keys in search rules

pub shape_of-products : goal.shape_of-products
shape_of-products c =
    let a = c.loop-k.invariant.2.coefficients in
    let b = (start (goal.at.shape_of-products c).At-loop-k).requires.room_3.coefficients in search rules

pub returns : goal.returns
returns c =
    let s = start (goal.at.returns c).At-loop-k in
    let w = s.requires.substitution_of in
    let i = c.loop-k.invariant in
    put_end w _ _ _ _ i.6 (omega (arith, c.loop-k-test.false))
    (c.widened.ensures s.args.n _ i.0 (put_packed w _ _ _ _ i.6))
