-- What the steps of a book lead to, and the rows that they report.
use Rattle.std.specs.Prelude.{map}
use Rattle.calculus.specs.Book.{Book}
use Rattle.calculus.specs.Shares.{all_rows, rows_sound}
use Rattle.model_types.specs.ModelStruct.{answer}
use Rattle.model_types.specs.SharesStruct.{stored_shares}
use Rattle.sheet_run_models.specs.sheet_run_laws.LastResult.{last_result}
use Rattle.sheet_running.specs.declared.Ran.{Ran}

-- as an answer, with 64 rows
unfoldable pub ran : Book → Ran
ran book = record { answer = answer (last_result book); shares = map stored_shares (all_rows (rows_sound book)) }
