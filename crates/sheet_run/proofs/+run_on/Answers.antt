-- `run_on` goes on with the full table where the middle one did not serve.
use Rattle.std.proofs.Common.{◌≡◌, ℕ, ◌<◌, Bool, false, arith, ap}
use Rattle.std.proofs.Math.Bool.{cond}
use lib.Dec.{lit≤}
use Rattle.sheet_run_tables.specs.sheet_run_laws.RunIterationLaws.{not_both, stopped_on}
use Rattle.sheet_run.proofs.+run_on.Goals as goal

-- a table is left where the full one is not at hand
lesser : (b : Bool) (t : ℕ) → ◌≡◌ {A = ℕ} (cond b 0 1) t → b ≡ false → 0 < t
lesser b t e h = let p : ◌≡◌ {A = ℕ} (cond b 0 1) 1 = ap (λ b. cond b 0 1) h in omega (arith, e, p)

pub steps_in-t-requires-clause-sizes : goal.steps_in-t-requires-clause-sizes
steps_in-t-requires-clause-sizes t c = record { slots_room = lit≤ tt; keys_room = lit≤ tt; sums_room = lit≤ tt }

pub steps_in-requires-clause-sizes : goal.steps_in-requires-clause-sizes
steps_in-requires-clause-sizes t c = record { slots_room = lit≤ tt; keys_room = lit≤ tt; sums_room = lit≤ tt }

pub returns-in_default : goal.returns-in_default
returns-in_default t c = λ p. stopped_on (c.steps_in-t.ensures p) (λ e. not_both e c.in_default.is)

pub returns-then-last-at : goal.returns-then-last-at
returns-then-last-at t c = λ p.
    let s = c.steps_in-t.ensures p in
    stopped_on s (λ e. omega (arith, (s.going e).within, c.if-last-at.true))

pub run_on-requires : goal.run_on-requires
run_on-requires t c = (
  lesser _ t c.decreases c.if-full.false,
  record { held = c.requires.held; begun = (c.steps_in-t.ensures c.requires).going c.in-Ok.is },
)

pub returns : goal.returns
returns t c = λ p. c.run_on.ensures (record { held = p.held; begun = (c.steps_in-t.ensures p).going c.in-Ok.is })
