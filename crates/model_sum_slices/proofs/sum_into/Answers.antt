-- `sum_into` merges, and tests the limits of what the merge leaves.
use mathlib.Core.Path.{refl, sym, ◌∙◌}
use mathlib.Core.List.{List}
use Prim.Native.Nat.{ℕ, ◌≤◌}
use native.Mathlib.Omega.{arith}
use borrow.Author.Rules.{rules}
use lib.IntN.{ℤ}
use Rattle.calculus.specs.Model.{most_terms}
use Rattle.model_types.specs.Arrays.{padded}
use Rattle.model_slices.specs.HandedModels.{terms_of}
use Rattle.model_slices.specs.HeldModels.{Room, Clear}
use Rattle.model_places.specs.LeftModelsLaws.{zeros_room}
use Rattle.model_slice_results.specs.DifferenceLaws.{sum_from}
use Rattle.model_sum_slices.specs.AddendsLaws.{left_many, left_over, left_within}
use Rattle.model_sum_slices.proofs.sum_into.Goals as goal
use Rattle.model_sum_slices.proofs.sum_into.Goals.{After-merged_slices-count}

pub merged_slices-count-requires : goal.merged_slices-count-requires
merged_slices-count-requires c =
    record {
      sum_from = c.requires.sum_from;
      room = zeros_room c.requires.zeros;
    }

-- the merge, and what it leaves
module _ (m : After-merged_slices-count) where
  abbrev sum_keys : List ℕ
  sum_keys = m.merged_slices-count.new.stored

  abbrev sums : List ℤ
  sums = m.merged_slices-count.new.out

  room : Room sum_keys sums
  room = record {
    keys = let a = (zeros_room m.requires.zeros).keys in search rules;
    coefficients = let a = (zeros_room m.requires.zeros).coefficients in search rules;
  }

  clear : m.merged_slices-count.result ≤ 64 → Clear m.merged_slices-count.result sum_keys sums
  unfolding terms_of padded most_terms
  clear h = m.merged_slices-count.ensures.clear h
      (record { keys_are = m.requires.zeros.keys; coefficients_are = m.requires.zeros.coefficients })

pub returns-then-count-gt-MOST_TERMS : goal.returns-then-count-gt-MOST_TERMS
returns-then-count-gt-MOST_TERMS c n w =
    left_many w (c.merged_slices-count.ensures.terms (sum_from w)) (omega arith) _ refl

pub within-requires : goal.within-requires
within-requires c = (omega arith, (room (goal.at.within-requires c).After-merged_slices-count).coefficients)

pub returns-then-within : goal.returns-then-within
returns-then-within c n w =
    let h : c.merged_slices-count.result ≤ 64 = omega arith in
    left_within w (c.merged_slices-count.ensures.terms (sum_from w)) h
    (sym (c.within.ensures n (sum_keys (goal.at.returns-then-within c).After-merged_slices-count)
    (room (goal.at.returns-then-within c).After-merged_slices-count)) ∙ c.if-within.true)
    (clear (goal.at.returns-then-within c).After-merged_slices-count h)

pub returns : goal.returns
returns c n w =
    left_over w (c.merged_slices-count.ensures.terms (sum_from w)) (omega arith)
    (sym (c.within.ensures n (sum_keys (goal.at.returns c).After-merged_slices-count)
    (room (goal.at.returns c).After-merged_slices-count)) ∙ c.if-within.false) _ refl
