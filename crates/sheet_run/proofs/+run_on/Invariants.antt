-- `run_on` calls itself once, with the full table: the measure is how many tables are left after the one at hand.
use mathlib.Core.Bool.{cond}
use Rattle.sheet_run.proofs.+run_on.Given as goal

abbrev pub decreases-run_on : goal.decreases-run_on
decreases-run_on l = cond l.full 0 1
