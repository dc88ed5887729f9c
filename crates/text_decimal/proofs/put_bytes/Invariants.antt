-- `put_bytes` puts one byte after another: the invariant is what the first i leave.
use Prim.Native.Nat.{◌≤◌, ◌<◌, ◌-◌}
use native.Mathlib.Omega.{arith}
use borrow.Author.Rules.{rules}
use lib.ListN.{length, take}
use lib.Seq.{length-take-le, take_all}
use Rattle.text_decimal.specs.Put.{Put}
use Rattle.text_decimal.specs.PutLaws.{put_nothing, put_as, put_next, put_length}
use Rattle.text_decimal.proofs.put_bytes.Given as goal

abbrev pub invariant-loop-byte : goal.invariant-loop-byte
invariant-loop-byte l =
    (l.byte-index ≤ length l.bytes) × Put l.initial.out l.at (take l.byte-index l.bytes) l.out l.next
