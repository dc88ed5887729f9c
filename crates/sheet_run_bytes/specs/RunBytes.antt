-- What the run of a sheet leads to, and the rows that it reports.
use Rattle.std.specs.Prelude.{List, map, ℕ}
use Rattle.calculus.specs.Refusal.{Result, done, ◌followed_by◌}
use Rattle.calculus.specs.Shares.{rows_sound, reported}
use Rattle.model_types.specs.ModelStruct.{answer}
use Rattle.model_types.specs.SharesStruct.{stored_shares}
use Rattle.format.specs.HeldBook.{HeldBook, view_book}
use Rattle.format.specs.Format.{read}
use Rattle.sheet_loading.specs.sheet_run_laws.LastResult.{last_result}
use Rattle.sheet_running.specs.declared.Ran.{Ran}

-- of what was read: the last result of a book, or the refusal of a test or a step; and the rows, all zeros where a test
-- refuses
unfoldable pub ran_read : Result HeldBook → Ran
ran_read a = record {
  answer = answer (a followed_by (λ h. last_result (view_book h)));
  shares = map stored_shares (reported (a followed_by (λ h. done (rows_sound (view_book h)))));
}

-- of a sheet
unfoldable pub ran_sheet : List ℕ → Ran
ran_sheet s = ran_read (read s)
