-- `put_u16` stores the digits in turn.
use native.Mathlib.Numerals.{add-one}
use native.Mathlib.Omega.{arith}
use borrow.Author.Rules.{rules}
use lib.ListN.{length-set}
use Rattle.format.specs.Bytes.{u16_bytes}
use Rattle.model_bytes.proofs.put_u16.Goals as goal

pub bounds-buffer-at-2 : goal.bounds-buffer-at-2
bounds-buffer-at-2 c = simp length-set (omega arith)

pub returns : goal.returns
unfolding u16_bytes
returns c = rw add-one
