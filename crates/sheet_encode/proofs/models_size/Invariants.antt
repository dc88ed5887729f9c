-- `models_size` sums the lengths of the records.
use mathlib.Core.Path.{◌≡◌}
use lib.ListN.{length}
use Rattle.format.specs.Format.{model_bytes}
use Rattle.sheet_book.specs.BookStruct.{held_book}
use Rattle.sheet_encode.specs.RecordLoopLaws.{front}
use Rattle.sheet_encode.proofs.models_size.Given as goal

abbrev pub invariant-loop-k : goal.invariant-loop-k
invariant-loop-k l =
    l.size ≡ length (front model_bytes (held_book l.b).models l.k)
