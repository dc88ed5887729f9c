-- `phase_of` is the phase by its number.
use Rattle.std.proofs.Common.{sym, ap, arith}
use Rattle.model_readings.specs.RowIterations.{phase_of}
use Rattle.model_readings.specs.FindingLaws.{last_is_evaluation}
use Rattle.model_readings.proofs.phase_of.Goals as goal

pub returns-in-0 : goal.returns-in-0
unfolding phase_of
returns-in-0 c = sym (ap phase_of c.in-0.is)

pub returns-in-1 : goal.returns-in-1
unfolding phase_of
returns-in-1 c = sym (ap phase_of c.in-1.is)

pub returns-in-2 : goal.returns-in-2
unfolding phase_of
returns-in-2 c = sym (ap phase_of c.in-2.is)

pub returns-in_default : goal.returns-in_default
returns-in_default c =
    sym (last_is_evaluation c.args.rows (λ e. omega (arith, e)) (λ e. omega (arith, e)) (λ e. omega (arith, e)))
