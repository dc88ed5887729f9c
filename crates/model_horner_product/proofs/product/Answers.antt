-- `product` keeps the product in two arrays of its own, and stores its terms by their keys.
use mathlib.Core.Path.{◌≡◌}
use Prim.Native.Nat.{◌≤◌}
use native.Mathlib.Omega.{arith}
use borrow.Author.Rules.{rules}
use lib.Dec.{lit≤}
use lib.ListN.{length}
use Rattle.calculus.specs.Model.{most_terms}
use Rattle.std.specs.Prelude.{Ok}
use Rattle.model_horner_product.specs.SliceProductLaws.{handed_factors, first_long, second_long, handed_product}
use Rattle.model_horner_product.specs.SliceProductLaws.{product_stops, product_stored}
use Rattle.model_horner_product.proofs.product.Goals as goal
use Rattle.model_horner_product.proofs.product.Goals.{In-Ok}

pub multiplied_slices-k-requires : goal.multiplied_slices-k-requires
unfolding most_terms
multiplied_slices-k-requires c =
    let w = c.requires.factors_of in record {
      factors = handed_factors w;
      count1_in_bounds = first_long w;
      count2_in_bounds = second_long w;
      scratch_room = c.requires.scratch_room;
      kept_room = record { kept_room = lit≤ tt; coefficients_room = lit≤ tt };
    }

pub returns-in_default : goal.returns-in_default
returns-in_default c =
    product_stops c.args.n c.multiplied_slices-k.ensures.ready
    (handed_product c.requires.factors_of c.multiplied_slices-k.ensures.exact) c.in_default.is _ _

-- it is accepted
module _ (c : In-Ok) where
  taken : c.multiplied_slices-k.result.verdict ≡ Ok tt
  taken = c.in-Ok.is

pub store_first-requires : goal.store_first-requires
unfolding most_terms
store_first-requires c =
    let r = c.multiplied_slices-k.ensures.ready.ready (taken (goal.at.store_first-requires c).In-Ok) in
    record {
      pack_ready = r;
      count_in_bounds = (
        omega (arith, r.few, c.requires.room.keys),
        omega (arith, r.few, c.requires.room.coefficients),
      );
    }

pub returns : goal.returns
returns c =
    product_stored c.args.n c.multiplied_slices-k.ensures.ready
    (handed_product c.requires.factors_of c.multiplied_slices-k.ensures.exact) (taken (goal.at.returns c).In-Ok) _
    _
    c.store_first.ensures.0 c.store_first.ensures.1
