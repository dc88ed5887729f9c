-- `run_steps` runs all steps, and answers the last result or the refusal, with the rows.
use Rattle.std.proofs.Common.{◌≡◌, ◌∙◌, ap, ◌≤◌, arith}
use Rattle.calculus.specs.Refusal.{stopped}
use Rattle.calculus.specs.Book.{most_models}
use Rattle.model_types.specs.ModelStruct.{cause, answer}
use Rattle.sheet_results.specs.ResultsLaws.{roomy_less}
use Rattle.sheet_step_answers.specs.Answers.{accepted_answer}
use Rattle.sheet_run_models.specs.sheet_run_laws.MemoryLaws.{count_listed, some_step, part_first, last_sound}
use Rattle.sheet_running.specs.RunningLaws.{ended_ran, last_ran}
use Rattle.sheet_running.proofs.run_steps.Goals as goal
use Rattle.sheet_running.proofs.run_steps.Goals.{Start}

-- there is a step
some_count : (c : Start) → 1 ≤ c.args.l.count
some_count c = some_step c.requires.same c.requires.passes

pub run-t-requires : goal.run-t-requires
run-t-requires c = part_first c.requires

pub overflow_sub-place : goal.overflow_sub-place
overflow_sub-place c = omega (arith, some_count (goal.at.overflow_sub-place c).Start)

pub result-last-requires : goal.result-last-requires
unfolding most_models
result-last-requires c =
    let b = (c.run-t.ensures (part_first c.requires)).going c.in_default.is in
    roomy_less b.so_far.room (omega (arith, some_count (goal.at.result-last-requires c).Start, count_listed b.same))

pub cleared-whole-requires : goal.cleared-whole-requires
unfolding most_models
cleared-whole-requires c =
    last_sound (c.run-t.ensures (part_first c.requires)) c.in_default.is c.result-last.result c.result-last.ensures

pub returns-in_default : goal.returns-in_default
unfolding most_models
returns-in_default c = λ t.
    let r = c.result-last in
    last_ran (c.run-t.ensures (part_first t)) c.in_default.is r.result r.ensures
    (c.accepted.ensures ∙ ap accepted_answer c.cleared-whole.ensures) c.all_rows-shares.ensures

pub returns : goal.returns
returns c = λ t.
    let v = c.in-Err in
    let place : c.refuse.result ≡ answer (stopped (cause v.field-0.0) c.run-t.result.at) = c.refuse.ensures in
    ended_ran ((c.run-t.ensures (part_first t)).ended v.field-0.0 v.field-0.1 v.is) place c.all_rows-shares.ensures
