-- `put_models` puts the models one after the other.
use Rattle.format.specs.Format.{model_bytes}
use Rattle.sheet_book.specs.BookStruct.{held_book}
use Rattle.sheet_encode.specs.RecordLoopLaws.{Put}
use Rattle.sheet_encode.proofs.put_models.Given as goal

abbrev pub invariant-loop-k : goal.invariant-loop-k
invariant-loop-k l =
    Put model_bytes (held_book l.b).models l.initial.buffer 0 l.buffer l.place l.k
