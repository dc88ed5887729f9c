-- `names_second` makes two comparisons.
use mathlib.Core.Path.{◌≡◌, sym}
use borrow.Author.Tests.{le-leb, lt-leb}
use native.Mathlib.Omega.{arith}
use Rattle.sheet_run_laws.specs.sheet_steps.Steps.{add_code, names_second}
use Rattle.sheet_run_others.proofs.names_second.Goals as goal

pub returns-then-code-lt-ADD : goal.returns-then-code-lt-ADD
unfolding names_second
returns-then-code-lt-ADD c = rw (lt-leb add_code c.args.code (omega (arith, c.if-code-lt-ADD.true)))

pub returns : goal.returns
unfolding names_second
returns c = rw (le-leb add_code c.args.code (omega (arith, c.if-code-lt-ADD.false)))
