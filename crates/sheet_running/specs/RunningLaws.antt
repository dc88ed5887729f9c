-- What a run that has ended answers.
use Rattle.std.specs.Prelude.{◌≡◌, List, map, ℕ, ◌+◌, ◌-◌}
use Rattle.std.proofs.Common.{◌∙◌, ap, ap₂}
use Rattle.calculus.specs.Model as C
use Rattle.calculus.specs.Refusal as R
use Rattle.calculus.specs.Book.{most_models, most_steps}
use Rattle.calculus.specs.Shares.{all_rows}
use Rattle.model_types.specs.declared.Model.{Model}
use Rattle.std.specs.Prelude.{Ok}
use Rattle.model_types.specs.declared.Answer.{Answer}
use Rattle.model_types.specs.declared.Shares.{Shares}
use Rattle.model_types.specs.ModelStruct.{view, pack, answer}
use Rattle.model_types.specs.SharesStruct.{stored_shares}
use Rattle.format.specs.HeldBook.{HeldBook, view_book}
use Rattle.sheet_results.specs.Results.{Results, held_result, first_rows}
use Rattle.sheet_step_answers.specs.Answers.{accepted_answer}
use Rattle.sheet_run_models.specs.sheet_run_laws.declared.StepList.{StepList}
use Rattle.sheet_run_models.specs.sheet_run_laws.declared.Stop.{Stop}
use Rattle.sheet_run_models.specs.sheet_run_laws.Run.{most_entries, Ended, Stopped}
use Rattle.sheet_run_models.specs.sheet_run_laws.RunLaws.{rows_are}
use Rattle.sheet_run_models.specs.sheet_run_laws.MemoryLaws.{run_ended}
use Rattle.sheet_running.specs.declared.Ran.{Ran}
use Rattle.sheet_running.specs.Running.{ran}

pub ended_ran : {h : HeldBook} {r : R.Result C.Model} {flat : List ℕ} {a : Answer} {shares : List Shares}
    → Ended h r flat → a ≡ answer r → shares ≡ first_rows flat most_steps
    → ◌≡◌ {A = Ran} (record { answer = a; shares = shares }) (ran (view_book h))
unfolding ran
ended_ran e p q = ap₂ (λ a s. record { answer = a; shares = s }) (p ∙ ap answer e.is)
    (q ∙ rows_are e.rows e.rows_few e.rows_stored ∙ ap (λ l. map stored_shares (all_rows l)) e.rows_all)

-- the end of a run that was not refused
pub last_ran : {h : HeldBook} {l : StepList} {t : Stop} {m : Results} {flat : List ℕ}
    (s : Stopped h l most_entries t m flat) (e : t.verdict ≡ Ok tt)
    (k : Model) (q : view k ≡ view (held_result l.n m (most_models + (l.count - 1)))) {a : Answer}
    {shares : List Shares}
    → a ≡ accepted_answer (pack (view k)) → shares ≡ first_rows flat most_steps
    → ◌≡◌ {A = Ran} (record { answer = a; shares = shares }) (ran (view_book h))
unfolding answer
last_ran s e k q x y = ended_ran (run_ended s e k q) x y
