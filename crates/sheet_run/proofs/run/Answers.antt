-- `run` goes on with the next tables where the small one did not serve.
use Rattle.std.proofs.Common.{arith}
use lib.Dec.{lit≤}
use Rattle.sheet_run_tables.specs.sheet_run_laws.RunIterationLaws.{not_both, stopped_on}
use Rattle.sheet_run.proofs.run.Goals as goal

pub steps_in-t-requires-clause-sizes : goal.steps_in-t-requires-clause-sizes
steps_in-t-requires-clause-sizes c = record { slots_room = lit≤ tt; keys_room = lit≤ tt; sums_room = lit≤ tt }

pub returns-in_default : goal.returns-in_default
returns-in_default c = λ t. stopped_on (c.steps_in-t.ensures t) (λ e. not_both e c.in_default.is)

pub returns-then-count-at : goal.returns-then-count-at
returns-then-count-at c = λ t.
    let s = c.steps_in-t.ensures t in
    stopped_on s (λ e. omega (arith, (s.going e).within, c.if-count-at.true))

pub run_on-requires : goal.run_on-requires
run_on-requires c =
    record { held = c.requires.held; begun = (c.steps_in-t.ensures c.requires).going c.in-Ok.is }

pub returns : goal.returns
returns c = λ t. c.run_on.ensures (record { held = t.held; begun = (c.steps_in-t.ensures t).going c.in-Ok.is })
