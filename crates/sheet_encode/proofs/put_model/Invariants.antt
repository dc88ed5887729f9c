-- `put_model` puts the radius and the count, and the terms after them.
use Prim.Native.Nat.{◌+◌}
use Rattle.format.specs.Format.{head_length, term_bytes}
use Rattle.sheet_book.specs.BookStruct.{held_model}
use Rattle.sheet_encode.specs.RecordLoopLaws.{Put}
use Rattle.sheet_encode.proofs.put_model.Given as goal

abbrev pub invariant-loop-i : goal.invariant-loop-i
invariant-loop-i l =
    Put (term_bytes l.m.n) (held_model l.m).terms l.initial.buffer (l.at + head_length) l.buffer l.place l.i
