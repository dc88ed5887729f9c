-- What a reported run answers: the run's own answer, and its rows.
use Rattle.std.specs.Prelude.{List, map}
use Rattle.calculus.specs.Shares as S
use Rattle.model_types.specs.SharesStruct.{stored_shares}
use Rattle.sheet_book.specs.declared.Summary.{Summary}
use Rattle.sheet_book.specs.declared.Report.{Report}

-- a summary with its rows
unfoldable pub report : Summary → List S.Shares → Report
report r rows = record { summary = r; shares = map stored_shares rows }
