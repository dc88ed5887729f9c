-- `rank_of` adds up the numbers of three lists, which give the rank by one computed test.
use Prim.Native.Nat.{ℕ, ◌/◌, ◌%◌, ◌<◌}
use native.Mathlib.Omega.{arith}
use lib.ListN.{get_or}
use mir.Syntax.{w64}
use borrow.Author.Rules.{rules, Fits-under}
use Rattle.calculus_laws.specs.MonomialKeyLaws.{word_key}
use Rattle.archive.specs.RankLaws.{Rankable}
use Rattle.archive.specs.RankSums.{up_to, less_by_three, less_by_two, two_sum, three_sum, four_sum, half_rank}
use Rattle.archive.specs.RankSums.{rank_by_sums}
use Rattle.archive.specs.RankSumLaws.{up_to_small, three_small, two_small, sums_rank}
use Rattle.archive.specs.RankSumLaws.{sum_of_two, sum_of_three, sum_of_four}
use Rattle.model_archive_ranks.proofs.rank_of.Goals as goal
use Rattle.model_archive_ranks.proofs.rank_of.Goals.{Start}

-- the numbers that are read
module _ (c : Start) where
  abbrev half : ℕ
  half = c.args.key / 65536

  most : get_or up_to (four_sum half % 16) 0 < 65536
  most = up_to_small (four_sum half % 16)

  first : get_or less_by_three (three_sum half % 16) 0 < 65536
  first = three_small (three_sum half % 16)

  second : get_or less_by_two (two_sum half % 16) 0 < 65536
  second = two_small (two_sum half % 16)

pub overflow_cast-most : goal.overflow_cast-most
unfolding up_to two_sum three_sum four_sum
overflow_cast-most c = Fits-under w64 _ 65536 (most (goal.at.overflow_cast-most c).Start) tt

pub overflow_cast-first : goal.overflow_cast-first
unfolding less_by_three two_sum three_sum four_sum
overflow_cast-first c = Fits-under w64 _ 65536 (first (goal.at.overflow_cast-first c).Start) tt

pub overflow_cast-second : goal.overflow_cast-second
unfolding less_by_two two_sum three_sum four_sum
overflow_cast-second c = Fits-under w64 _ 65536 (second (goal.at.overflow_cast-second c).Start) tt

pub overflow_add-result : goal.overflow_add-result
unfolding up_to less_by_three less_by_two two_sum three_sum four_sum
overflow_add-result c = Fits-under w64 _ 262144 (sum_of_two _ _ (most (goal.at.overflow_add-result c).Start)
    (first (goal.at.overflow_add-result c).Start)) tt

pub overflow_add-result-2 : goal.overflow_add-result-2
unfolding up_to less_by_three less_by_two two_sum three_sum four_sum
overflow_add-result-2 c =
    Fits-under w64 _ 262144 (sum_of_three _ _ _ (most (goal.at.overflow_add-result-2 c).Start)
    (first (goal.at.overflow_add-result-2 c).Start) (second (goal.at.overflow_add-result-2 c).Start)) tt

pub overflow_add-result-3 : goal.overflow_add-result-3
unfolding up_to less_by_three less_by_two two_sum three_sum four_sum
overflow_add-result-3 c =
    Fits-under w64 _ 262144 (sum_of_four _ _ _ (half (goal.at.overflow_add-result-3 c).Start)
    (most (goal.at.overflow_add-result-3 c).Start) (first (goal.at.overflow_add-result-3 c).Start)
    (second (goal.at.overflow_add-result-3 c).Start)) tt

pub returns : goal.returns
unfolding up_to less_by_three less_by_two two_sum three_sum four_sum half_rank rank_by_sums
returns c = sums_rank (record {
  below = word_key _ (omega arith);
  short = c.requires.key_value;
  low = c.requires.key_bound;
})
