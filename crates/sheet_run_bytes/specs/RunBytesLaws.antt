-- The run of a sheet by its tests: what a refusal leads to, what a book that was loaded is prepared for.
use Rattle.std.specs.Prelude.{◌≡◌, refl, List, ℕ, ◌+◌, ◌≤◌, pos, replicate}
use Rattle.std.proofs.Math.Path.{sym, ap}
use Rattle.std.proofs.Common.{◌∙◌, subst, arith}
use Rattle.calculus.specs.Model.{most_terms}
use Rattle.calculus.specs.Book.{most_models, most_steps}
use Rattle.calculus.specs.Refusal.{done, stopped, returned, ◌followed_by◌}
use Rattle.calculus.specs.Shares.{no_shares, all_rows, reported}
use Rattle.model_types.specs.declared.Answer.{Answer}
use Rattle.model_types.specs.declared.Refusal.{Refusal}
use Rattle.std.specs.Prelude.{Ok, Err}
use Rattle.model_types.specs.ModelStruct.{refused_at}
use Rattle.model_types.specs.ModelStruct.{answer, verdict, cause}
use Rattle.model_types.specs.SharesStruct.{stored_shares}
use Rattle.format.specs.HeldBook.{HeldBook, view_book}
use Rattle.format.specs.Format.{read, read_records}
use Rattle.format.specs.HeldBookLaws.{in_limits}
use Rattle.format.proofs.WriteBackLaws.{read_passes}
use Rattle.sheet_book.specs.TestedLaws.{IsDone, accepted_done, refused_stopped}
use Rattle.sheet_decode.specs.declared.Trailer.{Trailer}
use Rattle.sheet_decode.specs.Trailer.{held_trailer}
use Rattle.sheet_loading.specs.sheet_tests.HeadedLaws.{HeadPasses, head_refused}
use Rattle.sheet_loading.specs.sheet_tests.Headed.{headed}
use Rattle.sheet_loading.specs.sheet_tests.RecordTestLaws.{trailer_limits}
use Rattle.sheet_results.specs.Results.{Results, results, Roomy}
use Rattle.sheet_results.specs.ResultsLaws.{roomy_zeros}
use Rattle.sheet_loading.specs.sheet_run_laws.Run.{Prepared}
use Rattle.sheet_running.specs.declared.Ran.{Ran}
use Rattle.sheet_running.specs.Running.{ran}
use Rattle.sheet_loading.specs.declared.Loaded.{Loaded}
use Rattle.sheet_loading.specs.Loading.{RecordsLoaded}
use Rattle.sheet_run_bytes.specs.RunBytes.{ran_read, ran_sheet}

-- a run that a test refuses
pub refused_ran : (x : Refusal) (i : ℕ) {a : Answer} → a ≡ answer (stopped (cause x) i)
    → record { answer = a; shares = replicate 64 (record { carried = 0; rounding = 0; swept = 0; slack = 0 }) }
    ≡ ran_read (stopped (cause x) i)
unfolding ran_read ◌followed_by◌ reported returned all_rows most_steps stored_shares no_shares
refused_ran x i q = ap (λ (a : Answer). record { answer = a; shares = (ran_read (stopped (cause x) i)).shares }) q

-- and one that the tests let pass
done_ran : (h : HeldBook) → ran_read (done h) ≡ ran (view_book h)
unfolding ran_read ran ◌followed_by◌ reported returned
done_ran h = refl

-- ---- a sheet by tests 1 to 4
pub head_ran : (s : List ℕ) (x : Refusal) (i : ℕ) → verdict (headed s) ≡ Err (refused_at x i)
    → ran_read (stopped (cause x) i) ≡ ran_sheet s
unfolding ran_sheet
head_ran s x i v = ap ran_read (sym (head_refused s x i v))

module _ {s : List ℕ} {t : Trailer} (p : HeadPasses s t) where
  pub steps_most : t.steps ≤ 64
  steps_most = (in_limits t.n t.d t.models t.steps (trailer_limits t p.limits)).steps_high

  -- ---- and what was loaded of it
  module _ {r : Loaded} {m₀ m : Results}
      (g : RecordsLoaded t.steps (read_records s (held_trailer t)) r m₀ m) where
    -- tests 5 and 6 refuse it,
    pub records_ran : {x : Refusal} {i : ℕ} → r.verdict ≡ Err (refused_at x i)
        → ran_read (stopped (cause x) i) ≡ ran_sheet s
    unfolding ran_sheet
    records_ran {x = x} {i = i} v = ap ran_read
        (sym (p.goes_on ∙ refused_stopped (read_records s (held_trailer t)) x i (sym g.verdict_is ∙ v)))

    -- or its steps run
    module _ (v : r.verdict ≡ Ok tt) (room : Roomy (most_models + t.steps) m₀) where
      book : IsDone (read_records s (held_trailer t))
      book = accepted_done (read_records s (held_trailer t)) (sym g.verdict_is ∙ v)

      is_read : read s ≡ done book.value
      is_read = p.goes_on ∙ book.is

      pub prepared : Prepared r.list m
      prepared = record {
        held = book.value;
        passes = read_passes s book.value is_read;
        same = g.same book.value book.is;
        room = subst (λ c. Roomy (most_models + c) m) (sym g.count) (g.room book.value book.is _ room);
        loaded = g.models_are book.value book.is;
      }

      pub steps_ran : {x : Ran} → ((q : Prepared r.list m) → x ≡ ran (view_book q.held)) → x ≡ ran_sheet s
      unfolding ran_sheet prepared
      steps_ran f = f prepared ∙ sym (done_ran book.value) ∙ sym (ap ran_read is_read)
