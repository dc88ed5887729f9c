-- `iterated` makes the product, then the sum, which keeps the product's shares.
use mathlib.Core.Path.{◌≡◌, refl}
use mathlib.Core.List.{List}
use Prim.Native.Nat.{ℕ, ◌≤◌}
use native.Mathlib.Omega.{arith}
use borrow.Author.Rules.{rules}
use lib.IntN.{ℤ}
use Rattle.calculus.specs.Shares.{no_shares}
use Rattle.std.specs.Prelude.{Ok}
use Rattle.model_types.specs.SharesStruct.{stored_shares, unless_refused}
use Rattle.model_slices.specs.HeldModels.{held, Room}
use Rattle.model_addition.specs.Addition.{SumIn}
use Rattle.model_horner_iteration.specs.SliceHornerLaws.{iteration_factors, iteration_stops, iteration_sum}
use Rattle.model_horner_iteration.specs.SliceHornerLaws.{iteration_many, iteration_packed, iteration_end}
use Rattle.model_horner_iteration.proofs.iterated.Goals as goal
use Rattle.model_horner_iteration.proofs.iterated.Goals.{After-merged-total, After-product-k, In-Ok, Start}

pub product-k-requires : goal.product-k-requires
product-k-requires c =
    record {
      factors_of = iteration_factors c.requires.iteration_of;
      scratch_room = c.requires.scratch_room;
      room = c.requires.room;
    }

-- ---- the product
module _ (c : After-product-k) where
  abbrev spare : List ℕ
  spare = c.product-k.new.stored

  abbrev products : List ℤ
  products = c.product-k.new.out

  room : Room spare products
  room = record {
    keys = let a = c.requires.room.keys in search rules;
    coefficients = let a = c.requires.room.coefficients in search rules;
  }

pub returns-in_default : goal.returns-in_default
returns-in_default c =
    iteration_stops c.requires.iteration_of _ _ c.product-k.ensures c.in_default.is _ _

-- it is accepted
module _ (c : In-Ok) where
  taken : c.product-k.result.verdict ≡ Ok tt
  taken = c.in-Ok.is

pub merged-total-requires : goal.merged-total-requires
merged-total-requires c =
    record {
      sum_of = iteration_sum c.requires.iteration_of _ _ c.product-k.ensures
          (taken (goal.at.merged-total-requires c).In-Ok)
          (room (goal.at.merged-total-requires c).After-product-k);
      room = c.requires.iteration_of.first_room;
    }

-- ---- the sum
module _ (c : After-merged-total) where
  abbrev begin : Start
  begin =
      let a = c.before.before.before.before.before.before.before.before.before.before.before.before.before in
      a.before.before.before.before.before.before.before.before.before.before.before.before.before

  abbrev sum_keys : List ℕ
  sum_keys = c.merged-total.new.stored

  abbrev sums : List ℤ
  sums = c.merged-total.new.out

  sum_room : Room sum_keys sums
  sum_room = record {
    keys = let a = begin.requires.iteration_of.first_room.keys in search rules;
    coefficients = let a = begin.requires.iteration_of.first_room.coefficients in search rules;
  }

  sum_is : SumIn (held begin.args.n c.product-k.result.count c.product-k.result.radius
      (spare
      (record {
        before =
            c.before.before.before.before.before.before.before.before.before.before.before.before.before.before;
        type_inv = record { others = c.shared_slice_known-2-1.given; keys2 = c.shared_slice_known-1.given };
      }))
      (products
      (record {
        before =
            c.before.before.before.before.before.before.before.before.before.before.before.before.before.before;
        type_inv = record { others = c.shared_slice_known-2-1.given; keys2 = c.shared_slice_known-1.given };
      })))
      (held begin.args.n begin.args.t 0 begin.args.others.now begin.args.added.now)
      begin.args.n c.merged-total.result sum_keys sums
  sum_is = c.merged-total.ensures.terms
      (iteration_sum begin.requires.iteration_of _ _ c.product-k.ensures
      (taken (record {
        before = c.before.before.before.before.before;
        type_inv = record {
          spare = c.slice_known-7-1.given;
          keys = c.slice_known-6-1.given;
          slots = c.slice_known-5-1.given;
          others = c.shared_slice_known-2-1.given;
          keys2 = c.shared_slice_known-1.given;
        };
      }))
      (room
      (record {
        before =
            c.before.before.before.before.before.before.before.before.before.before.before.before.before.before;
        type_inv = record { others = c.shared_slice_known-2-1.given; keys2 = c.shared_slice_known-1.given };
      })))

pub returns-then-total-gt-MOST_TERMS : goal.returns-then-total-gt-MOST_TERMS
unfolding unless_refused stored_shares no_shares
returns-then-total-gt-MOST_TERMS c =
    iteration_many (begin (goal.at.returns-then-total-gt-MOST_TERMS c).After-merged-total).requires.iteration_of _ _
    c.product-k.ensures (taken (goal.at.returns-then-total-gt-MOST_TERMS c).In-Ok) _ _
    (sum_is (goal.at.returns-then-total-gt-MOST_TERMS c).After-merged-total)
    (omega (arith, c.if-total-gt-MOST_TERMS.true)) refl refl

pub limited_slices-left-requires : goal.limited_slices-left-requires
limited_slices-left-requires c = (
  omega (arith, c.if-total-gt-MOST_TERMS.false),
  (sum_room (goal.at.limited_slices-left-requires c).After-merged-total).coefficients,
)

pub returns : goal.returns
returns c =
    let p = c.product-k.ensures in
    let few : c.merged-total.result ≤ 64 = omega (arith, c.if-total-gt-MOST_TERMS.false) in
    iteration_end (begin (goal.at.returns c).After-merged-total).requires.iteration_of _ _ p
    (taken (goal.at.returns c).In-Ok) _ _ (sum_is (goal.at.returns c).After-merged-total) few
    (c.limited_slices-left.ensures (begin (goal.at.returns c).After-merged-total).args.n _
    (sum_room (goal.at.returns c).After-merged-total)
    (iteration_packed (begin (goal.at.returns c).After-merged-total).requires.iteration_of _ _ p
    (taken (goal.at.returns c).In-Ok) _ _ (sum_is (goal.at.returns c).After-merged-total) few))
    c.unless_refused-shares.ensures
