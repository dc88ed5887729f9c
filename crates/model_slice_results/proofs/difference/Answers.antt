-- `difference` merges the first with the second, whose signs are turned, and tests the limits.
use mathlib.Core.Path.{◌≡◌, refl}
use mathlib.Core.List.{List}
use Prim.Native.Nat.{ℕ, ◌≤◌}
use native.Mathlib.Omega.{arith}
use borrow.Author.Rules.{rules}
use lib.IntN.{ℤ}
use Rattle.calculus.specs.Model.{most_terms}
use Rattle.model_slices.specs.HeldModels.{held, Room}
use Rattle.model_addition.specs.Addition.{SumIn}
use Rattle.model_slice_results.specs.DifferenceLaws.{second_few, second_small, sum_from, radii_fit}
use Rattle.model_slice_results.specs.DifferenceLaws.{turned_addends}
use Rattle.model_slice_results.specs.DifferenceLaws.{difference_many, difference_packed, difference_left}
use Rattle.model_slice_results.proofs.difference.Goals as goal
use Rattle.model_slice_results.proofs.difference.Goals.{After-merged_slices-count}

pub turn-requires : goal.turn-requires
unfolding most_terms
turn-requires c =
    let w = c.requires.addends in
    record {
      count_in_bounds = (w.second.coefficients, second_few w);
      by_index = second_small w;
    }

pub merged_slices-count-requires : goal.merged_slices-count-requires
unfolding most_terms
merged_slices-count-requires c =
    record {
      sum_from = sum_from (turned_addends c.requires.addends c.turn.ensures);
      room = c.requires.room;
    }

-- ---- the merge
module _ (c : After-merged_slices-count) where
  abbrev sum_keys : List ℕ
  sum_keys = c.merged_slices-count.new.stored

  abbrev sums : List ℤ
  sums = c.merged_slices-count.new.out

  sum_room : Room sum_keys sums
  sum_room = record {
    keys = let a = c.requires.room.keys in search rules;
    coefficients = let a = c.requires.room.coefficients in search rules;
  }

  sum_is : SumIn (held c.args.n c.args.countp c.args.radiusp c.args.keysp.now
      c.args.coefficientsp.now)
      (held c.args.n c.args.countq c.args.radiusq c.args.keysq.now
      c.turn.new.out)
      c.args.n c.merged_slices-count.result sum_keys sums
  unfolding most_terms
  sum_is = c.merged_slices-count.ensures.terms (sum_from (turned_addends c.requires.addends c.turn.ensures))

pub returns-then-count-gt-MOST_TERMS : goal.returns-then-count-gt-MOST_TERMS
unfolding most_terms
returns-then-count-gt-MOST_TERMS c =
    difference_many c.requires.addends c.turn.ensures
    (sum_is (goal.at.returns-then-count-gt-MOST_TERMS c).After-merged_slices-count)
    (omega (arith, c.if-count-gt-MOST_TERMS.true)) refl

pub overflow_add-radius : goal.overflow_add-radius
overflow_add-radius c = record { fits = radii_fit c.requires.addends }

pub returns : goal.returns
unfolding most_terms
returns c =
    let few : c.merged_slices-count.result ≤ 64 = omega (arith, c.if-count-gt-MOST_TERMS.false) in
    difference_left c.requires.addends c.turn.ensures (sum_is (goal.at.returns c).After-merged_slices-count) few
    (c.limited_slices.ensures c.args.n _ (sum_room (goal.at.returns c).After-merged_slices-count)
    (difference_packed c.requires.addends c.turn.ensures (sum_is (goal.at.returns c).After-merged_slices-count) few))
