-- `word_all` stores one word after the other.
use Rattle.std.proofs.Common.{◌≡◌, ℕ, ◌<◌, get_or}
use Rattle.product_grid_index.specs.Grid.{word_by}
use Rattle.product_grid_index.proofs.word_all.Given as goal

abbrev pub invariant-loop-i : goal.invariant-loop-i
invariant-loop-i l =
    (j : ℕ) → j < l.i → get_or l.words j 0 ≡ word_by l.second l.third l.fourth (get_or l.keys j 0)
