-- `steps` makes one step after the other: what is known of the results so far is known after each.
use Rattle.sheet_results.specs.Results.{results}
use Rattle.sheet_run_room.specs.sheet_run_laws.Run.{Begun, Part, ScratchRoom}
use Rattle.sheet_run_loop.proofs.steps.Given as goal

-- whichever book the steps are of, its first steps are done; and the scratch memory is as long as before
abbrev pub invariant-loop-i : goal.invariant-loop-i
invariant-loop-i l =
    ((t : Part l.l l.from (results l.initial.keys l.initial.coefficients l.initial.counts l.initial.radii)
    l.initial.rows)
    → Begun t.held l.l l.i (results l.keys l.coefficients l.counts l.radii) l.rows)
    × ScratchRoom l.room l.slots l.places l.sums
