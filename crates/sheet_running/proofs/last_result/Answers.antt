-- `last_result` goes by the number of steps, of which a book has at most 64.
use Rattle.std.proofs.Common.{arith}
use Rattle.calculus.specs.Model.{most_terms}
use Rattle.calculus.specs.Book.{most_models}
use Rattle.sheet_book.specs.FailingLaws.{count_steps}
use Rattle.sheet_run_models.specs.sheet_run_laws.RunLaws.{in_limits_of}
use Rattle.sheet_running.proofs.last_result.Goals as goal

pub run_in-requires-clause-sizes : goal.run_in-requires-clause-sizes
unfolding most_terms most_models
run_in-requires-clause-sizes c =
    (omega (arith, c.if-b-le-FEW_STEPS.true), omega arith, omega arith, omega arith)

pub run_in-requires-2-clause-sizes : goal.run_in-requires-2-clause-sizes
unfolding most_terms most_models
run_in-requires-2-clause-sizes c = (
  omega (arith, count_steps c.args.b, (in_limits_of c.requires).steps_high),
  omega arith,
  omega arith,
  omega arith,
)
