-- The sums give the rank of every key of the archive, by one computed test.
use Rattle.std.specs.Prelude.{◌≡◌, refl, Bool, true, ◌&&◌, List, [], ◌∷◌, map, ℕ, zero, suc, ◌+◌, ◌/◌, ◌%◌, ◌<◌, T, ltb, length, get_or}
use Rattle.std.proofs.Common.{sym, ◌∙◌, ap, arith, ltb→lt, lit<}
use Rattle.calculus.specs.Key.{encode, key_width}
use Rattle.calculus.specs.Model.{most_degree}
use Rattle.calculus_laws.specs.TestLaws.{and_left, and_right}
use Rattle.archive.specs.Ranks.{count_up, in_turn, monomials, rank_width, all_keys, rank_count, rank_of, key_at}
use Rattle.archive.specs.RankSums.{up_to, less_by_three, less_by_two, two_sum, three_sum, four_sum, half_rank}
use Rattle.archive.specs.RankSums.{rank_by_sums}
use Rattle.archive.specs.RankLaws.{Rankable, all_count, rank_below, key_of_rank}

-- ---- the computed test
all_by_sums : map rank_by_sums all_keys ≡ count_up 0 rank_count
unfolding
    count_up in_turn monomials rank_width all_keys rank_count most_degree encode key_width up_to less_by_three
    less_by_two
    two_sum three_sum four_sum half_rank rank_by_sums
all_by_sums = refl

-- ---- place by place
at_mapped : (f : ℕ → ℕ) (l : List ℕ) (i : ℕ) → i < length l → get_or (map f l) i 0 ≡ f (get_or l i 0)
at_mapped f [] i h = absurd (omega arith)
at_mapped f (x ∷ l) zero h = refl
at_mapped f (x ∷ l) (suc i) h = at_mapped f l i (omega arith)

at_counted : (from c i : ℕ) → i < c → get_or (count_up from c) i 0 ≡ from + i
unfolding count_up
at_counted from zero i h = absurd (omega arith)
at_counted from (suc c) zero h = omega arith
at_counted from (suc c) (suc i) h = at_counted (suc from) c i (omega arith) ∙ omega arith

of_rank : (r : ℕ) → r < rank_count → rank_by_sums (key_at r) ≡ r
unfolding key_at
of_rank r h =
    let e : 0 + r ≡ r = omega arith in
    sym (at_mapped rank_by_sums all_keys r (omega (arith, all_count)))
    ∙ ap (λ l. get_or l r 0) all_by_sums ∙ at_counted 0 rank_count r h ∙ e

pub sums_rank : {z : ℕ} → Rankable z → rank_by_sums z ≡ rank_of z
sums_rank {z} r = ap rank_by_sums (sym (key_of_rank r)) ∙ of_rank (rank_of z) (rank_below r)

-- ---- the numbers of the three lists are small
all_small : List ℕ → Bool
all_small [] = true
all_small (x ∷ l) = ltb x 65536 && all_small l

small_at : (l : List ℕ) (i : ℕ) → T (all_small l) → get_or l i 0 < 65536
unfolding all_small
small_at [] i h = lit< tt
small_at (x ∷ l) zero h = ltb→lt x 65536 (and_left (ltb x 65536) _ h)
small_at (x ∷ l) (suc i) h = small_at l i (and_right (ltb x 65536) _ h)

pub up_to_small : (i : ℕ) → get_or up_to i 0 < 65536
unfolding up_to all_small
up_to_small i = small_at up_to i tt

pub three_small : (i : ℕ) → get_or less_by_three i 0 < 65536
unfolding less_by_three all_small
three_small i = small_at less_by_three i tt

pub two_small : (i : ℕ) → get_or less_by_two i 0 < 65536
unfolding less_by_two all_small
two_small i = small_at less_by_two i tt

-- and so are their sums
pub sum_of_two : (a b : ℕ) → a < 65536 → b < 65536 → a + b < 262144
sum_of_two a b f g = omega arith

pub sum_of_three : (a b c : ℕ) → a < 65536 → b < 65536 → c < 65536 → a + b + c < 262144
sum_of_three a b c f g h = omega arith

pub sum_of_four : (a b c z : ℕ) → a < 65536 → b < 65536 → c < 65536 → a + b + c + z / 16 % 16 < 262144
sum_of_four a b c z f g h = omega arith
