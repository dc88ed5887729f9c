-- The run of a sheet that is handed over, with its rows, and what the slices hold at the end.
use Rattle.std.specs.Prelude.{Bool, true, false, List, ℕ, ℤ}
use Rattle.sheet_book.specs.declared.Report.{Report}
use Rattle.model_slices.specs.HandedModels.{misused}
use Rattle.c_shares.specs.HandedShares.{stored_rows}
use Rattle.c_runs.specs.SheetCalls.{Run, run_state, stored_summary}

-- the number that a run returns and its slices, and that of the rows
pub record ReportedRun : Type 0 where
  pub run : Run
  pub shares : List ℕ

-- these, put together
unfoldable pub report_state : Run → (shares : List ℕ) → ReportedRun
report_state r ss = record { run = r; shares = ss }

-- what a run with its rows answers, over what the slices hold
unfoldable pub stored_report : Report → List ℕ → List ℤ → List ℕ → List ℤ → (shares : List ℕ) → ReportedRun
stored_report r ks cs ns es ss = report_state (stored_summary r.summary ks cs ns es) (stored_rows r ss)

-- a call that fits is answered, any other returns 255 and changes nothing
unfoldable pub called_report : (fits : Bool) → Report → List ℕ → List ℤ → List ℕ → List ℤ → (shares : List ℕ)
    → ReportedRun
called_report true r ks cs ns es ss = stored_report r ks cs ns es ss
called_report false r ks cs ns es ss = report_state (run_state misused ks cs ns es) ss
