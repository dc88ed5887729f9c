-- `put_steps` puts the steps one after the other.
use Rattle.format.specs.Format.{step_bytes}
use Rattle.sheet_book.specs.BookStruct.{held_book}
use Rattle.sheet_encode.specs.RecordLoopLaws.{Put}
use Rattle.sheet_encode.proofs.put_steps.Given as goal

abbrev pub invariant-loop-k : goal.invariant-loop-k
invariant-loop-k l =
    Put step_bytes (held_book l.b).steps l.initial.buffer l.at l.buffer l.place l.k
