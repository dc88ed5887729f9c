-- `put_row` stores four numbers.
use mathlib.Core.Path.{refl}
use native.Mathlib.Omega.{arith}
use lib.ListN.{length-set}
use Rattle.calculus.specs.Book.{most_steps}
use Rattle.sheet_results.specs.Results.{with_row}
use borrow.Author.Rules.{rules}
use Rattle.sheet_results.proofs.put_row.Goals as goal

pub overflow_mul-at : goal.overflow_mul-at
unfolding most_steps
overflow_mul-at c = search rules

pub offset_bounds-rows-at : goal.offset_bounds-rows-at
unfolding most_steps
offset_bounds-rows-at c = search rules

pub bounds-rows-at : goal.bounds-rows-at
unfolding most_steps
bounds-rows-at c = search rules

pub overflow_add-rows : goal.overflow_add-rows
unfolding most_steps
overflow_add-rows c = search rules

pub offset_bounds-rows-at-2 : goal.offset_bounds-rows-at-2
unfolding most_steps
offset_bounds-rows-at-2 c = search rules

pub bounds-rows-at-2 : goal.bounds-rows-at-2
unfolding most_steps
bounds-rows-at-2 c = simp length-set (omega arith)

pub overflow_add-rows-2 : goal.overflow_add-rows-2
unfolding most_steps
overflow_add-rows-2 c = search rules

pub offset_bounds-rows-at-3 : goal.offset_bounds-rows-at-3
unfolding most_steps
offset_bounds-rows-at-3 c = search rules

pub bounds-rows-at-3 : goal.bounds-rows-at-3
unfolding most_steps
bounds-rows-at-3 c = simp length-set (omega arith)

pub overflow_add-rows-3 : goal.overflow_add-rows-3
unfolding most_steps
overflow_add-rows-3 c = search rules

pub offset_bounds-rows-at-4 : goal.offset_bounds-rows-at-4
unfolding most_steps
offset_bounds-rows-at-4 c = search rules

pub bounds-rows-at-4 : goal.bounds-rows-at-4
unfolding most_steps
bounds-rows-at-4 c = simp length-set (omega arith)

pub returns : goal.returns
unfolding with_row
returns c = refl
