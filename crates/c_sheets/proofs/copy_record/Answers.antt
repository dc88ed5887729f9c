-- `copy_record` finds the record and copies it.
use mathlib.Core.Path.{ap}
use borrow.Author.Rules.{rules}
use lib.ListN.{length}
use Rattle.c_sheets.proofs.copy_record.Goals as goal

pub returns : goal.returns
returns c =
    (ap length c.record-found.ensures, rw (c.copy.ensures, c.record-found.ensures))
