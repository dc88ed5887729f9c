use mathlib.Core.Path.{ap}
use Prim.Native.Nat.{◌+◌}
use native.Mathlib.Omega.{arith}
use Rattle.sheet_record_places.specs.Places.{length_at, next_at}
use borrow.Author.Rules.{rules}
use Rattle.sheet_record_places.proofs.next_at.Reads as reads
use Rattle.sheet_record_places.proofs.next_at.Lts as lts
use Rattle.sheet_record_places.proofs.length_at.Reads as length-at-reads
use Rattle.sheet_record_places.proofs.next_at.Goals as goal

pub overflow_add-result : goal.overflow_add-result
unfolding length_at
overflow_add-result c = omega (arith, c.length_at-length.ensures)

pub returns : goal.returns
unfolding next_at
returns c = ap (λ k. c.args.at + k) c.length_at-length.ensures
