-- `put_iteration` makes the product, then the sum.
use mathlib.Core.Path.{◌≡◌, refl, sym, subst}
use mathlib.Core.List.{List}
use Prim.Native.Nat.{ℕ, ◌≤◌}
use native.Mathlib.Omega.{arith}
use borrow.Author.Rules.{rules}
use lib.IntN.{ℤ}
use mir.Facts.{to_z-of_z}
use mir.Syntax.{w64}
use mir.Val.{to_z, of_z}
use Rattle.calculus.specs.Refusal.{at_place}
use Rattle.model_types.specs.declared.Refusal.TheVariants.{TooManyTerms}
use Rattle.std.specs.Prelude.{Err}
use Rattle.model_types.specs.ModelStruct.{refused_at}
use Rattle.model_types.specs.ModelStruct.{answer}
use Rattle.model_slices.specs.HeldModels.{held, Room}
use Rattle.model_limits.specs.Limits.{LeftIn}
use Rattle.model_addition.specs.Addition.{SumIn}
use Rattle.model_evaluation.specs.Evaluate.{IterationOf, IteratedIn}
use Rattle.model_evaluation.specs.SliceIterationLaws.{product, iteration_scale, product_packed, product_few}
use Rattle.model_evaluation.specs.SliceIterationLaws.{product_left, iteration_stops}
use Rattle.model_evaluation.specs.SliceIterationLaws.{iteration_sum, iteration_many, iteration_packed}
use Rattle.model_evaluation.specs.SliceIterationLaws.{iteration_end}
use Rattle.model_evaluation.proofs.put_iteration.Goals as goal
use Rattle.model_evaluation.proofs.put_iteration.Goals.{After-limited_slices-product, After-merged-total, After-round_up, Start}

module _ (s : Start) where
  abbrev X : ℤ
  X = to_z w64 (of_z w64 s.args.x)

  back : X ≡ s.args.x
  back = to_z-of_z s.ranges.x

  iteration_of : IterationOf X s.args.c s.args.radius s.args.keys.now s.args.coefficients.now
      s.args.d s.args.others.now s.args.added.now
  iteration_of = subst (λ z. IterationOf z s.args.c s.args.radius s.args.keys.now
      s.args.coefficients.now s.args.d s.args.others.now s.args.added.now) (sym back) s.requires.iteration_of

pub scaled-p-requires : goal.scaled-p-requires
scaled-p-requires c =
    record {
      scale_of = iteration_scale (iteration_of (goal.at.scaled-p-requires c).Start);
      room = c.requires.room;
    }

-- ---- the product
module _ (c : After-round_up) where
  abbrev spare : List ℕ
  spare = c.scaled-p.new.stored

  abbrev products : List ℤ
  products = c.scaled-p.new.out

  room : Room spare products
  room = record {
    keys = let a = c.requires.room.keys in search rules;
    coefficients = let a = c.requires.room.coefficients in search rules;
  }

  few : c.scaled-p.result.count ≤ 64
  few = product_few (iteration_of c.before.before.before.before.before.before.before.before.before.before.before) _ _
      spare products
      (c.scaled-p.ensures (iteration_scale (iteration_of
      c.before.before.before.before.before.before.before.before.before.before.before))) c.round_up.ensures

pub limited_slices-product-requires : goal.limited_slices-product-requires
limited_slices-product-requires c = (few c, (room c).coefficients)

-- what is left of it, for any two models that the slices hold
product_is : (c : After-limited_slices-product)
    → (w : IterationOf (X c.before.before.before.before.before.before.before.before.before.before.before.before)
    c.args.c c.args.radius c.args.keys.now c.args.coefficients.now
    c.args.d c.args.others.now c.args.added.now)
    → LeftIn w.vars c.limited_slices-product.result
    (spare (record {
      before = c.before.before;
      type_inv = record
          { spare = c.slice_known-3-1.given; others = c.shared_slice_known-1.given };
    }))
    (products (record {
      before = c.before.before;
      type_inv = record
          { spare = c.slice_known-3-1.given; others = c.shared_slice_known-1.given };
    })) (answer (at_place 0 (product w)))
product_is c w =
    let e = c.scaled-p.ensures (iteration_scale w) in
    product_left w _ _ _ _ e c.round_up.ensures
    (c.limited_slices-product.ensures w.vars (spare
    (record {
      before = c.before.before;
      type_inv = record
          { spare = c.slice_known-3-1.given; others = c.shared_slice_known-1.given };
    }))
    (room (record {
      before = c.before.before;
      type_inv = record
          { spare = c.slice_known-3-1.given; others = c.shared_slice_known-1.given };
    }))
    (product_packed w _ _ _ _ e c.round_up.ensures))

pub returns-in_default : goal.returns-in_default
returns-in_default c =
    subst (λ z. IteratedIn z c.args.c c.args.radius c.args.keys.now c.args.coefficients.now
    c.args.d c.args.others.now c.args.added.now c.limited_slices-product.result c.args.keys.now
    c.args.coefficients.now)
    (back (goal.at.returns-in_default c).Start) (λ w. iteration_stops w _ _
    (product_is (goal.at.returns-in_default c).After-limited_slices-product w) c.in_default.is _ _)

pub merged-total-requires : goal.merged-total-requires
merged-total-requires c =
    let w = iteration_of (goal.at.merged-total-requires c).Start in
    record {
      sum_of = iteration_sum w _ _ (product_is (goal.at.merged-total-requires c).After-limited_slices-product w)
          c.in-Ok.is (room (goal.at.merged-total-requires c).After-round_up);
      room = w.first_room;
    }

-- ---- the sum
module _ (c : After-merged-total) where
  abbrev sum_keys : List ℕ
  sum_keys = c.merged-total.new.stored

  abbrev sums : List ℤ
  sums = c.merged-total.new.out

  sum_room : Room sum_keys sums
  sum_room = record {
    keys = let a = c.requires.iteration_of.first_room.keys in search rules;
    coefficients = let a = c.requires.iteration_of.first_room.coefficients in search rules;
  }

  module _
      (w : IterationOf
      (X
      c.before.before.before.before.before.before.before.before.before.before.before.before.before.before.before.before)
      c.args.c c.args.radius c.args.keys.now
      c.args.coefficients.now c.args.d c.args.others.now c.args.added.now) where
    sum_is : SumIn (held w.vars c.limited_slices-product.result.count c.limited_slices-product.result.radius
        (spare (record {
          before = c.before.before.before.before.before.before;
          type_inv = record
              { spare = c.slice_known-3-1.given; others = c.shared_slice_known-1.given };
        }))
        (products (record {
          before = c.before.before.before.before.before.before;
          type_inv = record
              { spare = c.slice_known-3-1.given; others = c.shared_slice_known-1.given };
        })))
        (held w.vars c.args.d 0 c.args.others.now c.args.added.now)
        w.vars c.merged-total.result sum_keys sums
    sum_is = c.merged-total.ensures.terms (iteration_sum w _ _
        (product_is (record {
          before = c.before.before.before.before.before;
          type_inv = record
              { spare = c.slice_known-3-1.given; others = c.shared_slice_known-1.given };
        }) w) c.in-Ok.is
        (room (record {
          before = c.before.before.before.before.before.before;
          type_inv = record
              { spare = c.slice_known-3-1.given; others = c.shared_slice_known-1.given };
        })))

pub returns-then-total-gt-MOST_TERMS : goal.returns-then-total-gt-MOST_TERMS
returns-then-total-gt-MOST_TERMS c =
    subst (λ z. IteratedIn z c.args.c c.args.radius c.args.keys.now c.args.coefficients.now
    c.args.d c.args.others.now c.args.added.now
    (record { count = 0; radius = 0; verdict = Err (refused_at TooManyTerms 0) })
    (sum_keys (goal.at.returns-then-total-gt-MOST_TERMS c).After-merged-total)
    (sums (goal.at.returns-then-total-gt-MOST_TERMS c).After-merged-total))
    (back (goal.at.returns-then-total-gt-MOST_TERMS c).Start)
    (λ w. iteration_many w _ _ (product_is (goal.at.returns-then-total-gt-MOST_TERMS c).After-limited_slices-product
    w) c.in-Ok.is _ _ (sum_is (goal.at.returns-then-total-gt-MOST_TERMS c).After-merged-total w)
    (omega (arith, c.if-total-gt-MOST_TERMS.true)) refl)

pub limited_slices-requires : goal.limited_slices-requires
limited_slices-requires c = (
  omega (arith, c.if-total-gt-MOST_TERMS.false),
  (sum_room (goal.at.limited_slices-requires c).After-merged-total).coefficients,
)

pub returns : goal.returns
returns c =
    subst (λ z. IteratedIn z c.args.c c.args.radius c.args.keys.now c.args.coefficients.now
    c.args.d c.args.others.now c.args.added.now c.limited_slices.result
    (sum_keys (goal.at.returns c).After-merged-total) (sums (goal.at.returns c).After-merged-total))
    (back (goal.at.returns c).Start) (λ w.
    let t = c.in-Ok.is in
    iteration_end w _ _ (product_is (goal.at.returns c).After-limited_slices-product w) t _ _
    (sum_is (goal.at.returns c).After-merged-total w) (omega (arith, c.if-total-gt-MOST_TERMS.false))
    (c.limited_slices.ensures w.vars _ (sum_room (goal.at.returns c).After-merged-total)
    (iteration_packed w _ _ (product_is (goal.at.returns c).After-limited_slices-product w) t _ _
    (sum_is (goal.at.returns c).After-merged-total w) (omega (arith, c.if-total-gt-MOST_TERMS.false)))))
