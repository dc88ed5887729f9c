-- `store_summary` stores the model, the numbers and the ends.
use borrow.Author.Rules.{rules}
use Rattle.c_runs.specs.SheetCalls.{stored_summary}
use Rattle.c_runs.proofs.store_summary.Goals as goal

pub returns : goal.returns
unfolding stored_summary
returns c =
    rw (
      c.verdict_number.ensures,
      c.store_ends.ensures,
      c.store_numbers.ensures,
      c.verdict_place.ensures,
      c.store_terms.ensures.0,
      c.store_terms.ensures.1,
    )
